pub mod Depth
pub mod ItemValues
pub mod ItemReads
pub mod SoFar
pub mod Spelled
pub mod Told
