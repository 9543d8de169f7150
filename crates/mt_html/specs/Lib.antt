pub mod Nesting
pub mod Normal
pub mod Refusals
