pub mod CaseFaults
pub mod CaseRules
pub mod Difference
pub mod Listed
pub mod TagRule
