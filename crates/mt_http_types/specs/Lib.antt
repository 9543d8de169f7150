pub mod Lines
pub mod Target
