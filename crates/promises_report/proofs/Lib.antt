pub mod RankTelling
pub mod PromisesTelling
pub mod Keeping
pub mod SiteLists
pub mod Marking
mod SomeRouter
mod Joining
pub mod Grouping
pub mod Casing
pub mod Taking
pub mod ApartTelling
