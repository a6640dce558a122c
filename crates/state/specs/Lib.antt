pub mod State
pub mod Flags
pub mod Ranges
