pub mod Expressions
pub mod Lists
pub mod Made
pub mod Reading
pub mod Statements
