pub mod Evidence
pub mod Numbers
pub mod Relations
pub mod Rounds
pub mod Views
pub mod Reasons
pub mod Choosing
