pub mod Graphs
pub mod Limits
