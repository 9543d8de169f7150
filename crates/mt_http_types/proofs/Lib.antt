pub mod Runs
pub mod Targets
