pub mod Bounds
pub mod Classes
pub mod Least
