pub mod Causes
pub mod Changes
pub mod Followed
pub mod Deeds
pub mod AtOnce
