pub mod Arguments
pub mod Arrays
pub mod Costs
pub mod Joining
pub mod Methods
pub mod Texts
