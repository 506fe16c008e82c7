pub mod Joined
pub mod Judged
pub mod OfCases
pub mod OneVerdict
