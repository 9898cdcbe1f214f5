pub mod Items
pub mod Words
pub mod Warnings
pub mod Seen
pub mod Ranges
pub mod Fits
pub mod Told
