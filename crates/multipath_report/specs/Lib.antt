pub mod Idle
pub mod Members
pub mod Texts
pub mod Told
