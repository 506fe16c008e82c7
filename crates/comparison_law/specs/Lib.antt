pub mod Comparisons
pub mod Laws
pub mod One
