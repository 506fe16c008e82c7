pub mod Besides
mod Choosing
mod Following
mod Living
mod Opening
mod Reaching
pub mod Telling
mod Visiting
mod Visits
