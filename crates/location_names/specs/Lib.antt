pub mod Names
pub mod Neighbours
