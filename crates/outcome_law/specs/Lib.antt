pub mod Longest
pub mod Packets
pub mod Laws
