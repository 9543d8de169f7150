pub mod Before
pub mod Characters
pub mod Depths
pub mod Levels
pub mod NormalForm
pub mod Runs
pub mod Turns
