-- What this crate defines. Assumes nothing.
pub mod Lines
pub mod File
pub mod Rules
pub mod Promise
