pub mod Lowest
pub mod Naming
pub mod Held
pub mod One
pub mod Ending
pub mod Scenarios
pub mod Reached
