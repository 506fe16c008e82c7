pub mod CaseWalks
mod Cases
mod Comparing
pub mod Once
