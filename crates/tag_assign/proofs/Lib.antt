pub mod Order
pub mod Tallies
