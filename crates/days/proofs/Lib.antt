pub mod Cut
pub mod Laws
pub mod OneAnswer
pub mod Ranges
pub mod Examples
