pub mod Timed
pub mod Turns
pub mod Corner
