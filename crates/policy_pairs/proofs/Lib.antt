mod FirstStatements
mod CaseKinds
mod PairFacts
mod PairClasses
mod FrontPairs
mod BackPairs
mod FoundPairs
mod GroupTurns
mod OtherPrefixes
pub mod OnePairs
