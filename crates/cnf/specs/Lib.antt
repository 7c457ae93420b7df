-- What this crate defines. Assumes nothing.
pub mod Clause
pub mod Words
pub mod Lent
pub mod Encoded
