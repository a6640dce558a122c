pub mod Choice
pub mod Tests
pub mod Toggle
pub mod Bytes
