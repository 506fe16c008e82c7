pub mod KeptGraphs
pub mod Placed
pub mod Within
