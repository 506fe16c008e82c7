pub mod Ascending
pub mod CutLines
pub mod FaultLaws
mod KnownRouters
pub mod Lawful
pub mod ReadTexts
pub mod Runs
pub mod SoFar
pub mod Steps
pub mod TakenTexts
