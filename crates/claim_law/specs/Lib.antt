pub mod Claim
pub mod Laws
pub mod OfNet
pub mod Taken
pub mod Walked
