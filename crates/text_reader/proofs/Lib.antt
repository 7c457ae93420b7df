-- The laws of this crate that others cite. Assumes nothing.
pub mod WordLaws
pub mod FillLaws
pub mod AnswerLaws
