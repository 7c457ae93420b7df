-- What this crate defines. Assumes nothing.
pub mod Demand1
pub mod Demand2
pub mod HalfFinished
pub mod Demand3
pub mod ReadBack
pub mod Samples
pub mod Picture
