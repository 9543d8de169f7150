pub mod Elements
pub mod ProgramTests
