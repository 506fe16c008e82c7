pub mod Compiled
pub mod Compiling
pub mod Explained
pub mod Sampled
pub mod Written
