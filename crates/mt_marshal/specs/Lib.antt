pub mod Characters
pub mod Elaboration
pub mod Lawful
pub mod Rules
pub mod Snapshot
pub mod Walks
