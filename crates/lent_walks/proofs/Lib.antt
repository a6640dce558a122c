pub mod Plain
pub mod LentAlone
pub mod LentWithOne
pub mod LentWithBuffer
pub mod LentCopy
pub mod LentCopyWithBuffer
pub mod LentPassedOn
pub mod Looked
