pub mod Ends
pub mod Found
pub mod OwnLines
pub mod Says
pub mod Lawful
pub mod Turning
