pub mod SomeFrom
pub mod CallSums
pub mod NoPeers
pub mod Verdicts
