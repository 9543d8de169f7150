pub mod Lawfulness
pub mod Texts
mod Units
