pub mod Ending
pub mod Least
pub mod More
