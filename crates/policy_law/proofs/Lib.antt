mod Binds
mod Grown
mod Lookups
mod RankMarks
mod Uses
mod Learnt
mod FigureChecks
mod Growing
mod OriginChecks
mod LimitChecks
mod Building
mod Whole
mod HeldNames
mod Sequence
mod ByParts
mod Places
mod Shallow
mod OneTree
mod NothingBroken
mod FineItems
mod FewItems
pub mod OriginSets
pub mod Texts
