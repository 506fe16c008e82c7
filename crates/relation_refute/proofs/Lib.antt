pub mod Assembling
pub mod Celling
pub mod Chaining
pub mod Faulting
pub mod Firsts
pub mod Lining
pub mod Linking
pub mod Telling
