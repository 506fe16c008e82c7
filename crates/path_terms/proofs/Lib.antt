pub mod Same
pub mod Numbers
pub mod Growth
pub mod Sequences
pub mod Members
pub mod Intersections
pub mod Joins
