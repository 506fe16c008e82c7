pub mod Network
pub mod Lines
pub mod Graph
pub mod Spells
pub mod Outcome
pub mod Laws
pub mod Settling
