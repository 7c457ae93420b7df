-- The laws of this crate that others cite. Assumes nothing.
pub mod TokenLaws
pub mod PassLaws
pub mod BodyLaws
pub mod HeaderLaws
pub mod ReadTable
pub mod WriteLaws
pub mod WriterLaws
pub mod ReadLaws
pub mod RoundTrip
pub mod VerdictLaws
pub mod NumberLaws
