mod ReadTexts
mod ReadPolicies
pub mod Spelling
pub mod Asking
