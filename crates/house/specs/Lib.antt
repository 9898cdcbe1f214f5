pub mod Spans
pub mod Breaks
pub mod Profile
