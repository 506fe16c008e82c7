pub mod Lists
pub mod NeverMembers
pub mod Numbers
