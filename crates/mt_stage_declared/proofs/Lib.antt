mod Alike
mod Counts
pub mod Declares
mod Holding
mod Repeats
pub mod Rows
mod Seen
mod Tables
mod Words
