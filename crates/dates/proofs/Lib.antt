pub mod Good
pub mod Meant
pub mod Cut
pub mod BareDay
pub mod BareItems
pub mod OneAnswer
pub mod Examples
