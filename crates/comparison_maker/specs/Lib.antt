pub mod Compared
pub mod Refusals
pub mod Shown
