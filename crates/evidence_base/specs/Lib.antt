pub mod Evidence
pub mod Made
