pub mod Named
pub mod Scenarios
