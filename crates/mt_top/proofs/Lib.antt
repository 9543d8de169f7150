pub mod Exclusion
pub mod Meanings
pub mod ShortLists
