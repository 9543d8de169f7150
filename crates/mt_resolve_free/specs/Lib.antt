pub mod Tildes
