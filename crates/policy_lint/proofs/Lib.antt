pub mod Covers
pub mod Idles
pub mod Naming
pub mod Selected
pub mod Telling
pub mod Texts
pub mod Whole
