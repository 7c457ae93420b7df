-- The theorems of the demands, and the samples. Assumes nothing.
pub mod Demand1
pub mod Flat
pub mod Orders
pub mod Meaning
pub mod Listed
pub mod Demand2
pub mod TextRoundTrip
pub mod Demand3
pub mod ReadBack
pub mod Samples
pub mod Picture
