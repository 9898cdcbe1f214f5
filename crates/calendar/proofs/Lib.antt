pub mod Months
pub mod Years
