mod Atoms
mod Balance
mod CallReaders
mod Choices
pub mod Cuts
mod Expressions
mod Gaps
mod ItemReaders
mod Levels
mod Lists
mod Lookups
mod NameReaders
mod Nesting
mod Policies
mod Readers
mod Repeats
mod Sequences
pub mod SpanLaws
mod SetsReaders
pub mod TextLaws
mod Tokens
mod WholeCalls
mod WholeItems
