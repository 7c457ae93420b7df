-- What this crate defines. Assumes nothing.
pub mod Build
pub mod Promise
