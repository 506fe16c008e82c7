pub mod Best
pub mod Grounds
pub mod Offers
pub mod Rounds
pub mod ByFronts
