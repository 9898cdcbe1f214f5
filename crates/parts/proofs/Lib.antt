pub mod Laws
pub mod PartLaws
