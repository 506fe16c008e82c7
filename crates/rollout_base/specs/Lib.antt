pub mod Lines
pub mod Mixtures
pub mod Moments
pub mod Stages
