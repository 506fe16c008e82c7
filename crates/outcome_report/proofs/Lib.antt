pub mod Alike
pub mod Situations
pub mod Texts
