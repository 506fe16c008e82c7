pub mod Above
pub mod Apart
pub mod Cases
pub mod Making
pub mod One
pub mod Passing
pub mod Raising
