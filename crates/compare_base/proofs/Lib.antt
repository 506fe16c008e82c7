pub mod SameCases
pub mod Less
