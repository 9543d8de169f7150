pub mod DataAt
pub mod Entries
pub mod Extent
pub mod Names
pub mod Outcome
pub mod Reading
pub mod Size
pub mod Tagged
