pub mod Ahead
pub mod Faults
pub mod Kinds
pub mod Places
pub mod Tokens
