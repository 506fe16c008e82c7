pub mod Choices
pub mod Still
pub mod Match
pub mod Sources
pub mod History
pub mod End
pub mod Fair
pub mod Resting
