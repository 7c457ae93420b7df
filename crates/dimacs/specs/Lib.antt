-- What this crate defines. Assumes nothing.
pub mod Text
pub mod Tokens
pub mod Header
pub mod Rules
pub mod Given
pub mod Write
pub mod Read
pub mod RoundTrip
