pub mod Blanked
pub mod Openings
