pub mod Rows
pub mod Joins
pub mod Levels
pub mod Nodes
pub mod Frees
pub mod Words
