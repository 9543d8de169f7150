pub mod Bound
pub mod Misused
pub mod Rules
pub mod Sites
