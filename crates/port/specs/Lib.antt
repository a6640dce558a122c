pub mod State
pub mod Prefix
pub mod Flags
pub mod AltEntry
pub mod Makes
pub mod KeyByte
pub mod Laws
