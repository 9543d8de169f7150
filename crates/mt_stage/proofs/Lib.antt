pub mod BrokenPlaces
pub mod Empty
pub mod Jumps
pub mod Limits
pub mod Names
pub mod Places
pub mod Plain
pub mod Texts
pub mod Tildes
mod Forms
mod Programs
