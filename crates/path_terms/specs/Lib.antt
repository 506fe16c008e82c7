pub mod Joined
pub mod Terms
pub mod Values
