pub mod Changes
pub mod Directions
pub mod Gifts
pub mod Idle
pub mod Readings
pub mod Sizes
pub mod States
