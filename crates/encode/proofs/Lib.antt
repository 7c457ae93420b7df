-- Lemmas of this crate. Assumes nothing.
mod ProgramLaws
