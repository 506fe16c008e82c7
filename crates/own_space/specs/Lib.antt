pub mod Spaces
pub mod Covers
pub mod Open
pub mod Laws
