pub mod Views
pub mod Rows
pub mod Tokens
pub mod Readable
pub mod Places
pub mod Values
pub mod Reading
pub mod NodeViews
