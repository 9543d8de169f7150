pub mod Laws
mod Tables
