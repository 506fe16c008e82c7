pub mod CompareLaws
pub mod Telling
