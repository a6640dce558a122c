pub mod State
pub mod Poll
pub mod Reply
pub mod Byte97
pub mod Inputs
pub mod Laws
pub mod Ranges
pub mod Turns
