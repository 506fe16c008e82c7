mod Parts
mod Calls
mod Expressions
mod Items
pub mod Policies
mod Written
pub mod OneMeaning
pub mod Configurations
