pub mod Characters
pub mod Cuts
pub mod Finding
pub mod Fronts
pub mod Numbers
pub mod Places
pub mod Texts
