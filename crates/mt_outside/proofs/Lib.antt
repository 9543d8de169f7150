pub mod Known
pub mod Pieces
pub mod Given
pub mod Storage
pub mod Named
pub mod Counts
pub mod Changed
pub mod Doors
