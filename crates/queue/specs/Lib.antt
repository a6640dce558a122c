pub mod Queue
pub mod Enhanced
pub mod Words
