pub mod Dispatch
pub mod Listeners
