pub mod Editions
pub mod Houses
