pub mod Nests
