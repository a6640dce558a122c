pub mod Masks
pub mod Accepted
pub mod OneFrameEach
