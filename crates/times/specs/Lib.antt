pub mod Times
pub mod Shapes
pub mod Spans
pub mod Meanings
pub mod Seen
