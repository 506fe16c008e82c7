pub mod Alike
pub mod AllRules
pub mod Faults
pub mod Fold
pub mod Limits
pub mod Live
pub mod SeenTags
