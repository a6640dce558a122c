pub mod Calls
pub mod Past
pub mod Ring
pub mod Laws
