mod Endings
pub mod Starts
mod Words
