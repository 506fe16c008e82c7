pub mod Laws
pub mod Reused
pub mod Staying
