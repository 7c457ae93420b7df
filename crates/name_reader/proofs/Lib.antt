-- The laws of this crate. Assumes nothing.
pub mod TurnLaws
pub mod BlockLaws
