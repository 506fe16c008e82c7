pub mod OneVerdict
pub mod TenRules
