pub mod Exports
pub mod PortCalls
pub mod Reads
pub mod ReadLaws
pub mod ExportLaws
pub mod CallLists
