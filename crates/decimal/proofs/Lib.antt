-- The laws of this crate that others cite. Assumes nothing.
pub mod DigitsLaws
pub mod RunLaws
pub mod PositiveLaws
pub mod BytesLaws
pub mod WriterLaws
pub mod FieldLaws
pub mod ReadLaws
