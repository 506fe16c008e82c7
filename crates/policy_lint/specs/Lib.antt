pub mod Findings
pub mod Groups
pub mod Selected
pub mod Told
