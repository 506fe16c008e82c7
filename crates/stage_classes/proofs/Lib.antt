pub mod Placing
pub mod Shared
