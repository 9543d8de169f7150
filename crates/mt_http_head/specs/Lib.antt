pub mod Fields
pub mod Parsed
pub mod Points
pub mod Targets
