pub mod Classes
pub mod Forest
pub mod Stages
pub mod Ways
pub mod Meets
