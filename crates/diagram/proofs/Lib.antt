-- The laws of this crate that others cite. Assumes nothing.
pub mod ShapedLaws
pub mod RangeLaws
pub mod SoundLaws
pub mod NumberLaws
pub mod AllowsLaws
pub mod CheckLaws
pub mod Witness
