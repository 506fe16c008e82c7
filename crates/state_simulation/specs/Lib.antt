pub mod Apart
pub mod Found
pub mod Held
pub mod Looked
pub mod Stages
pub mod Targets
