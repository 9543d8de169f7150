pub mod Limits
pub mod Place
pub mod Tables
pub mod Text
pub mod Units
pub mod Words
pub mod formers
