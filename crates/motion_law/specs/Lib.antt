pub mod Ever
pub mod Told
pub mod Events
pub mod Motion
pub mod Within
pub mod Rounds
