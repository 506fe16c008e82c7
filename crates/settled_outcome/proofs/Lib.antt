pub mod Grounds
pub mod Owns
pub mod Routes
pub mod Surviving
