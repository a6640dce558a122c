pub mod Laws
pub mod BitFour
pub mod Cases
