pub mod Globals
pub mod Lawful
pub mod Limits
pub mod Names
