pub mod Application
pub mod Schedule
