pub mod Reading
pub mod Encoding
pub mod Parsing
pub mod Laws
