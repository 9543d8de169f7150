pub mod Escaping
pub mod Requests
