pub mod Speaking
pub mod Steps
pub mod Words
pub mod World
