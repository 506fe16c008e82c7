pub mod Ascending
pub mod Claimed
pub mod Heard
pub mod Marking
pub mod Offering
pub mod Sessions
