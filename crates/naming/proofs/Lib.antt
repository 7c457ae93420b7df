-- The laws of this crate that others cite. Assumes nothing.
pub mod MarkLaws
pub mod NameLaws
pub mod ReadLaws
