pub mod Coding
pub mod Standing
pub mod Trees
