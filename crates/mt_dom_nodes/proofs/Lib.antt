pub mod Standing
pub mod Neighbours
pub mod Counts
pub mod Changes
pub mod Upward
pub mod Results
pub mod Views
