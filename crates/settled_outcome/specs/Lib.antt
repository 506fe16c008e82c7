pub mod Outcomes
pub mod Surviving
