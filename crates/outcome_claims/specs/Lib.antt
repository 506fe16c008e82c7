pub mod Claims
pub mod Marks
pub mod Offers
pub mod Reported
