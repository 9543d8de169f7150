pub mod Services
pub mod Tops
pub mod Within
pub mod Resolved
pub mod Captured
pub mod Resolving
