pub mod Table
pub mod Translation
pub mod Laws
