pub mod ImageFlags
pub mod ImageQueue
pub mod ImageLine
pub mod ImagePort
pub mod ImageController
pub mod Image
pub mod ImageLaws
