pub mod Reading
pub mod Events
pub mod Walk
pub mod Packs
