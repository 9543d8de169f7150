pub mod Accepted
pub mod CodeLimits
pub mod Services
pub mod Made
