pub mod Texts
pub mod Into
pub mod Seen
