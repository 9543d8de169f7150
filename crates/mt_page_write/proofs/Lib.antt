pub mod Carried
pub mod Lengths
