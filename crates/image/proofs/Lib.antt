pub mod ImageLaws
pub mod ControllerNumbers
pub mod Mapped
