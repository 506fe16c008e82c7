pub mod Automata
pub mod Firsts
pub mod Mixed
pub mod Numbered
pub mod Refusals
pub mod Sources
pub mod BuildFaults
pub mod BuildOutcomes
