-- The laws of this crate that others cite. Assumes nothing.
pub mod MarkLaws
pub mod NamedLaws
pub mod ReadLaws
pub mod ModelLaws
