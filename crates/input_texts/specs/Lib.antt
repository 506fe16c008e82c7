pub mod Asked
pub mod FaultLines
pub mod Texts
