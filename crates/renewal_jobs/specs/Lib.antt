pub mod Renewing
pub mod Reusing
