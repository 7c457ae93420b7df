-- What this crate defines. Assumes nothing.
pub mod Model
pub mod Rules
pub mod Promise
pub mod Steps
