pub mod Utf8
pub mod CodePoints
pub mod Letters
