mod Listed
mod Places
mod Agreeing
pub mod Told
pub mod One
