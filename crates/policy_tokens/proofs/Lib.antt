pub mod Cutting
pub mod Onward
pub mod Pieces
pub mod Places
