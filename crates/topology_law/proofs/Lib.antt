pub mod Objects
pub mod Topologies
pub mod Wholes
