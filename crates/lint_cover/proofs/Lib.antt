pub mod Covering
pub mod Cuts
pub mod Decision
pub mod Descent
pub mod Halves
pub mod Noted
pub mod Tables
