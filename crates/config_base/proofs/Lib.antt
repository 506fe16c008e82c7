pub mod LineLemmas
pub mod LineSearch
pub mod SameTags
mod NamedBlocks
mod SessionBlocks
