-- The laws that this crate's answers cite. Assumes nothing.
mod WalkLaws
