pub mod Apart
pub mod ByRows
pub mod Meeting
