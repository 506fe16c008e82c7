pub mod Agreeing
pub mod Clashes
pub mod WordsOfRows
