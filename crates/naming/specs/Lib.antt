-- What this crate defines. Assumes nothing.
pub mod Naming
pub mod Marks
