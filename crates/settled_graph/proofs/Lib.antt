pub mod Lowest
pub mod Opening
pub mod Reaching
pub mod Rounds
pub mod Stages
pub mod Tables
pub mod Taking
pub mod FrontLaws
