pub mod NameBytes
pub mod Numbers
pub mod Pieces
pub mod PrefixTexts
pub mod Words
mod Texts
