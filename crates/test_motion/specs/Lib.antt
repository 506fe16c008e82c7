pub mod Networks
pub mod Rows
