pub mod Counting
pub mod Joining
pub mod Lanes
pub mod Setting
pub mod Tables
pub mod Words
pub mod Writing
