mod Edges
pub mod Seen
mod Blocks
mod Descents
mod Joined
mod Found
