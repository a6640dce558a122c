pub mod Former
pub mod Laws
