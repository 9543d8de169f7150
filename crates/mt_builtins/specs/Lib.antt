pub mod Builtins
pub mod Lawful
pub mod Lines
pub mod Making
pub mod Numbers
pub mod Plain
