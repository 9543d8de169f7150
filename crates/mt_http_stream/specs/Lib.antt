pub mod Fed
pub mod Progress
pub mod Settling
