pub mod ClassLines
pub mod Marks
pub mod Tables
