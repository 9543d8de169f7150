pub mod Listening
pub mod Steps
pub mod Turns
