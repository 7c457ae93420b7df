-- What this crate defines. Assumes nothing.
pub mod Variables
pub mod Clauses
pub mod Editions
