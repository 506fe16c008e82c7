pub mod Bits
pub mod EntryLemmas
pub mod ListLaws
pub mod Means
pub mod OverlapLaws
