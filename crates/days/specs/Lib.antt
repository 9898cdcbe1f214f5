pub mod Offsets
pub mod Entries
pub mod Weekdays
pub mod Holidays
