pub mod Builtins
pub mod Clashes
pub mod Declarations
pub mod Names
pub mod Parts
pub mod Repeated
pub mod Scopes
pub mod Twice
