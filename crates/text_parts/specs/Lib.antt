pub mod Ends
pub mod Texts
pub mod Telling
pub mod Difference
