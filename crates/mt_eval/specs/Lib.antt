pub mod Jobs
pub mod ByNames
