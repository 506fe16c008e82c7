pub mod Faults
pub mod Laws
pub mod Rules
pub mod Shape
pub mod Spelled
pub mod Views
