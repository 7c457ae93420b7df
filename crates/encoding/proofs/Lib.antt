-- The laws of this crate that others cite. Assumes nothing.
pub mod EncodeLaws
pub mod ClauseLaws
pub mod EmitLaws
