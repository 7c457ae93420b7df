-- What this crate defines. Assumes nothing.
pub mod Survey
pub mod Measured
