mod Draining
mod OnLinks
pub mod OneText
