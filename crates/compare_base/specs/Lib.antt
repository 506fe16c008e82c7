pub mod Cases
pub mod Ranks
pub mod Same
pub mod Order
