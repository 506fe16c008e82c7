pub mod Counts
pub mod Earlier
pub mod Keys
pub mod Lists
pub mod Places
pub mod Refused
