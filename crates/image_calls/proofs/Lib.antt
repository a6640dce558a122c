pub mod Beside
pub mod Events
pub mod Readings
pub mod ExportLaws
pub mod CallLists
pub mod Remade
pub mod Changes
pub mod PortCalls
