pub mod Alike
mod Ends
pub mod Free
pub mod Judged
pub mod NoTags
pub mod SameBlocks
mod Splitting
