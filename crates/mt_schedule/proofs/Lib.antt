pub mod Commands
pub mod Cuts
pub mod Events
pub mod Ids
pub mod Schedules
