pub mod Layers
pub mod Loading
pub mod Loads
pub mod Reading
pub mod Same
pub mod Speaking
pub mod Standing
pub mod Tags
