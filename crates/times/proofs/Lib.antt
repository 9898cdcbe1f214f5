pub mod Laws
pub mod Cut
pub mod OneAnswer
pub mod Ranges
pub mod Examples
