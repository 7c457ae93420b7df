-- What this crate defines. Assumes nothing.
pub mod Words
