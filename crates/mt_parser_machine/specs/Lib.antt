pub mod Views
pub mod Steps
pub mod Counts
pub mod Families
pub mod Refused
