pub mod Readings
pub mod Bounds
