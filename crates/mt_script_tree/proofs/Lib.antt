pub mod Depths
pub mod Many
