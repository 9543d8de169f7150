pub mod Descent
pub mod Endings
mod ByNames
