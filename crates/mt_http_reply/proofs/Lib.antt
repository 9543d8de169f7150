pub mod Digits
pub mod Heads
pub mod Moves
pub mod Phrases
pub mod Replies
pub mod StreamSteps
