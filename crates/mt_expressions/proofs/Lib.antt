pub mod Enters
pub mod Nodes
