pub mod FirstFault
pub mod MapsRead
pub mod MapsReading
