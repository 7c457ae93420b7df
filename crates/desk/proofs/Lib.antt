-- The laws of this crate that others cite. Assumes nothing.
pub mod PrintLaws
pub mod RunLaws
pub mod DeskLaws
