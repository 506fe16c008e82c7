pub mod Taken
pub mod Ever
pub mod Told
pub mod Events
pub mod Within
pub mod Kept
pub mod Memory
