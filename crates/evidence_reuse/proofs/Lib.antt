pub mod Cases
pub mod Ends
pub mod Making
pub mod Numbers
pub mod One
pub mod Passing
pub mod Rising
pub mod Tags
