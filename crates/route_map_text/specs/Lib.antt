pub mod MapsLines
pub mod MapsSpelled
pub mod MapLineText
pub mod MapLines
