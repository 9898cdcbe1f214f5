pub mod Sums
pub mod Counts
pub mod Refusals
pub mod Answers
pub mod Figures
pub mod Stored
pub mod Joins
