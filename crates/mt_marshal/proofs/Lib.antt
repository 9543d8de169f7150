pub mod Building
mod Chains
pub mod Elaborating
mod Levels
mod Measures
mod Parts
mod Seen
mod Snapped
mod Within
