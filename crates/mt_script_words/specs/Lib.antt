pub mod Keywords
pub mod Literals
pub mod Operators
pub mod Outcome
pub mod Values
pub mod Words
