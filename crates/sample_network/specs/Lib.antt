pub mod Network
pub mod SamplePolicy
