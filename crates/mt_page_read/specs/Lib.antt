pub mod Fed
pub mod Held
pub mod Machine
pub mod Over
