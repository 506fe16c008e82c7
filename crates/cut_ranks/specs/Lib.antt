pub mod Left
pub mod Lives
pub mod Paths
pub mod Searching
pub mod Tops
