pub mod Conditions
pub mod Hops
pub mod Law
pub mod Writing
