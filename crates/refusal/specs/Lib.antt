-- What this crate defines. Assumes nothing.
pub mod Rules
pub mod Said
pub mod Table
pub mod Answered
