pub mod Escapes
pub mod Targets
pub mod RequestText
