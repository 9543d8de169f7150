mod Cells
mod Joins
pub mod Lawfulness
mod Names
