pub mod Links
pub mod Readings
pub mod Scenarios
pub mod Situations
pub mod Surviving
pub mod Tests
