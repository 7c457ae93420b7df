-- The laws of this crate that others cite. Assumes nothing.
pub mod VariableLaws
pub mod OneOf
pub mod ExactlyOneLaws
pub mod Common
pub mod Meant
pub mod OpenValues
pub mod Decided
pub mod Satisfied
pub mod LiteralLaws
pub mod SizeLaws
pub mod Edition1
pub mod Edition1Sizes
pub mod WellListed
