-- What this crate defines. Assumes nothing.
pub mod Call
pub mod Promise
