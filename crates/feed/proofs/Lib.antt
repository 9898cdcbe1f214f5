pub mod LineLaws
pub mod Slots
pub mod Readings
