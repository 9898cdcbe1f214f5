pub mod Bytes
pub mod Tables
pub mod Slots
pub mod SlotCells
pub mod Lent
