pub mod Situated
pub mod Tops
pub mod Verdicts
