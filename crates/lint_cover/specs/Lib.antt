pub mod Covered
pub mod Statements
pub mod Tables
