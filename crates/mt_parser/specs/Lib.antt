pub mod Parsing
pub mod Levels
