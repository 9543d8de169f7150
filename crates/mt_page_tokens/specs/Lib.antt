pub mod Codes
pub mod Limits
pub mod Reading
pub mod Tokens
