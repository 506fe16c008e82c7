pub mod OneSettlement
pub mod Settled
