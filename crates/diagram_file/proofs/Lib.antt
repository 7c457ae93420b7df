-- The laws of this crate that others cite. Assumes nothing.
pub mod LineLaws
pub mod FileLaws
pub mod ReadLaws
