pub mod ConfigLines
pub mod ConfigText
pub mod Spelled
