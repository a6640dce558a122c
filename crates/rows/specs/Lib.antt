pub mod Printed
pub mod Rows
pub mod Column
pub mod Lookup
pub mod Ascending
pub mod Rules
pub mod GreyKeys
