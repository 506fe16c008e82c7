pub mod Changing
pub mod Cutting
pub mod Moves
pub mod Settling
pub mod Shifting
pub mod Opened
