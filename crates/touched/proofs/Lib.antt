pub mod Laws
pub mod Steps
pub mod ItemByItem
pub mod Senses
pub mod DayLaws
pub mod Proved
