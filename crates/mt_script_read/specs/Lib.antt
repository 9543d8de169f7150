pub mod CodeAt
pub mod Differing
pub mod Fills
pub mod Readable
pub mod Reads
pub mod Walking
