pub mod PrintLaws
pub mod Entries
pub mod LongMapLines
pub mod MapForms
pub mod MapJoined
pub mod MapWritten
pub mod OtherMapLengths
