pub mod Graphs
pub mod Least
pub mod Preferences
pub mod Ranked
pub mod Refuting
pub mod Rules
pub mod Runs
pub mod Walks
