pub mod Alike
pub mod Moments
pub mod OfCase
pub mod Safe
pub mod Saying
pub mod Still
