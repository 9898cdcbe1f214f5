pub mod Ones
pub mod Adds
pub mod Raises
pub mod Counting
pub mod OfBytes
pub mod Judged
pub mod Lists
pub mod JoinLaws
