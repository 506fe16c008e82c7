pub mod Jobs
pub mod OnlyRead
pub mod Readings
pub mod Sending
pub mod Sent
pub mod Told
