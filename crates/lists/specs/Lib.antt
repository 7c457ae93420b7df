-- What this crate defines. Assumes nothing.
pub mod Upto
pub mod Every
pub mod First
pub mod Buffer
pub mod Signed
