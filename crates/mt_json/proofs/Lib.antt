pub mod Again
pub mod Arguments
pub mod DataAt
pub mod DataLevels
pub mod Distinct
mod Entries
pub mod Escapes
pub mod Extents
pub mod Greatest
pub mod JsonOf
pub mod JsonTexts
pub mod Many
pub mod Readings
pub mod Separated
pub mod Sizes
pub mod Spelled
pub mod Testing
pub mod Walks
