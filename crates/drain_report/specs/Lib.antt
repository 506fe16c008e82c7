pub mod Free
pub mod Steps
pub mod Texts
pub mod DrainFree
pub mod Laws
pub mod Uses
pub mod Quiet
