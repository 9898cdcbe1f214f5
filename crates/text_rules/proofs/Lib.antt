pub mod Moves
pub mod Sure
pub mod Takes
pub mod Fills
pub mod Turns
