pub mod Around
pub mod Bound
