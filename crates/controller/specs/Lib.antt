pub mod State
pub mod PortEvents
pub mod Laws
