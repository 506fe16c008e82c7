pub mod SiteNames
pub mod Linked
