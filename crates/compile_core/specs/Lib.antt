pub mod Accepting
pub mod Compiling
