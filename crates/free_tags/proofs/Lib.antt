pub mod Counting
pub mod Tops
