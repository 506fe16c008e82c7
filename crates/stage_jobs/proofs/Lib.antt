pub mod BetweenLaws
pub mod Saying
