pub mod Compiling
pub mod ExplainLaws
pub mod SampleLaws
pub mod Showing
pub mod ThirdText
pub mod WrittenLaws
