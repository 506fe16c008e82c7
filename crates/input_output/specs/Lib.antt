pub mod Outside
pub mod Calls
pub mod MemInputs
pub mod MemSink
pub mod SureInputs
