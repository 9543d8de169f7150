pub mod Loads
pub mod Posts
pub mod Frames
pub mod Requests
