-- The laws of this crate. Assumes nothing.
pub mod EndLaws
pub mod LayerLaws
