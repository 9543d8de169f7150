pub mod AttributeTurns
pub mod Codes
pub mod Escapes
pub mod Lacking
pub mod Loops
pub mod TagLaws
pub mod TokensRead
