-- What this crate defines. Assumes nothing.
pub mod Output
pub mod Promise
