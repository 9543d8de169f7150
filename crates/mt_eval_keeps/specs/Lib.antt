pub mod Between
pub mod Code
pub mod Growth
pub mod Hosts
pub mod Kept
