pub mod Asking
pub mod Coming
pub mod SameInputs
pub mod Telling
pub mod Untouched
