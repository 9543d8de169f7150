pub mod Puts
pub mod Growth
pub mod Building
pub mod Parts
