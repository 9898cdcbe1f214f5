pub mod Months
pub mod Entries
pub mod Walk
pub mod Masks
