pub mod Forms
pub mod Jumps
pub mod Placement
