pub mod Asking
pub mod Fed
pub mod Heads
pub mod Reading
