-- The laws of this crate. Assumes nothing.
pub mod CallLaws
pub mod SameLaws
