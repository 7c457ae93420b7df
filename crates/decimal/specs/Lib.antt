-- What this crate defines. Assumes nothing.
pub mod Digits
pub mod Bytes
pub mod Reading
