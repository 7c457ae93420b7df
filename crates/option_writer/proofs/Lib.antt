-- The laws of this crate. Assumes nothing.
pub mod PartLaws
