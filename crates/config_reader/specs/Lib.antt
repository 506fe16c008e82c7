pub mod Faults
pub mod FirstFault
pub mod Known
pub mod Order
pub mod Reading
pub mod Text
pub mod Views
