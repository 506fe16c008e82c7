mod Cases
pub mod Claim
mod OfNet
mod Taken
