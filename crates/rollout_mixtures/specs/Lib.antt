pub mod Between
pub mod Laws
pub mod Layered
pub mod Alike
