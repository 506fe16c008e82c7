pub mod Laws
pub mod Rollouts
