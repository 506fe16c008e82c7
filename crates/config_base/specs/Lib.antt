pub mod Configs
pub mod Lines
