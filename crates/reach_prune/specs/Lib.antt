pub mod Numbers
pub mod Reachable
pub mod Searches
pub mod Sweeps
pub mod Trimmed
pub mod Ways
