pub mod Same
pub mod Apart
pub mod Mixed
