pub mod Mixed
pub mod Readers
pub mod Rest
pub mod Resting
pub mod Rollouts
pub mod Settled
