pub mod Laws
pub mod Stages
pub mod Unlike
pub mod Verdicts
