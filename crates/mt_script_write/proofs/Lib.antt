pub mod Codes
pub mod Quoted
pub mod Nodes
