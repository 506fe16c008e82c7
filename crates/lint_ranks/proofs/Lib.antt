pub mod Marked
pub mod NodeRanks
pub mod Placed
