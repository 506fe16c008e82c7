pub mod Found
pub mod Rows
pub mod Sources
pub mod Texts
