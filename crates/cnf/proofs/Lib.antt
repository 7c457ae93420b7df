-- The laws of this crate that others cite. Assumes nothing.
pub mod WordsLaws
pub mod Propagation
pub mod EncodedLaws
pub mod LentLaws
