mod Counting
mod Lefts
mod Fine
pub mod Symbols
