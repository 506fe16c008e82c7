pub mod Lists
pub mod Prefixes
pub mod Rows
