-- The laws of this crate that others cite. Assumes nothing.
pub mod SumLaws
