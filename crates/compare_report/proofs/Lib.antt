pub mod Borrowed
pub mod Telling
pub mod Unchanged
