pub mod Cases
pub mod Within
pub mod Ranges
pub mod Counts
pub mod Settled
pub mod Operand
pub mod Turns
pub mod Replies
