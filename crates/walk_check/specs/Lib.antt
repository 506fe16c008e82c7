pub mod Alike
pub mod WaysOf
pub mod Keys
pub mod Formed
pub mod Firsts
pub mod PairRanks
