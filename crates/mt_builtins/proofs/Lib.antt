pub mod Hosts
pub mod Lawfulness
mod Making
mod Names
mod Numerals
mod Units
mod Table
