mod Bounds
mod MapCuts
mod MapFaults
pub mod MapReadTexts
mod MapSoFar
mod MapSteps
pub mod MapTaken
mod Numbering
