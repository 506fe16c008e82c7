pub mod Dead
pub mod Kept
pub mod Kinds
pub mod Together
pub mod Laws
pub mod Moments
pub mod Scenarios
pub mod Waiting
