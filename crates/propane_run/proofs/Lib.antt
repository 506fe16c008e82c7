mod Naming
pub mod Asking
pub mod ByCommand
pub mod Causes
pub mod Compilation
pub mod Compilers
pub mod Dispatch
pub mod Ending
pub mod Failing
pub mod Promising
pub mod Roles
pub mod RunLaws
pub mod ThreeTexts
