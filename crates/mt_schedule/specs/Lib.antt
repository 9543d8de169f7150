pub mod Command
pub mod Echo
pub mod Reading
pub mod Schedule
