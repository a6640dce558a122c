pub mod Rows
pub mod Queue
pub mod Port
pub mod Events
pub mod Lists
