pub mod Texts
pub mod Coming
pub mod Holding
