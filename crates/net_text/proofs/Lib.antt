pub mod Letters
pub mod Items
pub mod Shaped
pub mod Judged
pub mod ReadAgain
