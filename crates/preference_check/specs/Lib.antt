pub mod FirstPair
pub mod Floods
pub mod Offers
pub mod Rows
pub mod Runs
