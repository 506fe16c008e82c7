pub mod OneTrace
pub mod Replayed
