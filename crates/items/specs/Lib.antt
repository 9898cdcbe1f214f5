pub mod Musts
pub mod Kinds
pub mod Sets
pub mod Seen
