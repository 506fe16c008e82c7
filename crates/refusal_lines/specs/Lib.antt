pub mod Explanations
pub mod RefusalLines
