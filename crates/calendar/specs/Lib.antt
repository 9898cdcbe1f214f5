pub mod Calendar
pub mod Years
