pub mod Announced
pub mod Carried
pub mod Laws
pub mod Multipath
pub mod Spread
