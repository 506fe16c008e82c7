pub mod Growth
pub mod Counts
