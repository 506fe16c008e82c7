mod Ranked
mod Cases
pub mod Rows
mod Origins
mod Alike
mod Bare
pub mod Same
mod Failing
mod Alone
mod Lost
pub mod First
pub mod Unsaid
