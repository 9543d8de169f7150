pub mod Decided
pub mod Understood
