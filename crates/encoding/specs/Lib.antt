-- What this crate defines. Assumes nothing.
pub mod Promise
pub mod Emit
