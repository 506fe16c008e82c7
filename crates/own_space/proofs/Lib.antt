mod Inside
mod Originals
mod Whole
pub mod Telling
mod Emptied
mod Growing
