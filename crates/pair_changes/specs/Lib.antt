pub mod Changes
pub mod Shown
pub mod Places
pub mod Kinds
pub mod Walks
pub mod Carriers
