mod RowOrder
pub mod SetItems
pub mod EarlierRows
pub mod NotedRows
pub mod RowsMet
mod ReversedWalks
pub mod FirstWalks
pub mod CaseRanks
