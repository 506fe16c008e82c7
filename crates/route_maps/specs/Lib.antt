pub mod Maps
pub mod OfConfig
pub mod Overlaps
