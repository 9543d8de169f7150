pub mod Expected
pub mod FileName
pub mod Lines
pub mod Meaning
pub mod Refusals
pub mod Status
pub mod Texts
pub mod Words
