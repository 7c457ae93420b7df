-- The laws of this crate that others cite. Assumes nothing.
pub mod UptoLaws
pub mod ChoiceLaws
pub mod EveryLaws
pub mod FirstLaws
pub mod BufferLaws
pub mod SignedLaws
pub mod AnswerLaws
pub mod IterLaws
pub mod FoldLaws
pub mod FoundLaws
