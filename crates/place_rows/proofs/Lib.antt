pub mod Order
mod Tables
mod Mets
mod FirstRows
mod Placed
