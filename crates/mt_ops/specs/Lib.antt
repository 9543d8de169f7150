pub mod Equality
pub mod Errors
pub mod Lawful
pub mod Numbers
pub mod Order
pub mod Operators
pub mod Texts
