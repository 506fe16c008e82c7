pub mod Free
pub mod Equal
