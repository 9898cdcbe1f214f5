pub mod Stores
pub mod Keeps
pub mod Cells
pub mod OfBytes
pub mod SlotLaws
pub mod Words
