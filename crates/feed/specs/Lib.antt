pub mod Lines
pub mod Feeds
pub mod Into
