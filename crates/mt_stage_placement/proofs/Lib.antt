pub mod FirstForm
pub mod FirstJump
pub mod FirstPlace
pub mod FormParts
pub mod JumpParts
pub mod Rows
pub mod Twice
