pub mod Listing
pub mod Finding
pub mod Telling
