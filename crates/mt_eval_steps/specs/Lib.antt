pub mod Outcomes
pub mod Readable
pub mod Contents
pub mod Entries
