pub mod Merged
pub mod Ordered
pub mod Runs
pub mod Spreading
