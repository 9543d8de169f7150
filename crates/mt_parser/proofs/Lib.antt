pub mod Answer
pub mod Few
mod AnswerPlaces
mod Small
mod Runs
mod Scanning
pub mod Joins
pub mod Gathering
pub mod Gathers
pub mod Places
pub mod Nested
pub mod Numbers
pub mod Depths
pub mod Tiers
pub mod Dollars
pub mod Fits
pub mod Spelled
pub mod Parts
pub mod Looks
pub mod Finding
pub mod Shapes
pub mod Terminals
pub mod Derived
pub mod Classes
pub mod Fronts
pub mod Openings
pub mod Words
pub mod Lexed
pub mod Whole
