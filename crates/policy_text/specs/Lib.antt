pub mod PolicyText
pub mod Printable
pub mod Values
pub mod Laws
pub mod Choices
