pub mod Fronts
mod InArrays
mod InObjects
pub mod Numbers
mod OneValue
mod Parsed
pub mod Places
pub mod Strings
pub mod Texts
pub mod Values
