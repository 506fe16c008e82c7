pub mod Laws
pub mod Lines
pub mod Refusals
pub mod Scenes
pub mod Trace
