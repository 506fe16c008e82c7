pub mod Limits
pub mod Ways
