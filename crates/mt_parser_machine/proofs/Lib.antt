pub mod Views
pub mod Tags
pub mod Shifts
pub mod Absent
pub mod Growth
pub mod Turns
pub mod Offending
