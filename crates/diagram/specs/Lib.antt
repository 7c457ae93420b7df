-- What this crate defines. Assumes nothing.
pub mod Lent
pub mod Sound
pub mod Rules
pub mod Numbers
pub mod Promise
