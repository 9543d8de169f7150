mod Cells
mod Costs
pub mod Lawfulness
mod Names
mod Places
mod Texts
mod Room
