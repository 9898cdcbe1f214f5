pub mod Sheets
pub mod PartReadings
