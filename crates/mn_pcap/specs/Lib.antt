pub mod Format
pub mod Grammar
pub mod Reading
pub mod Stages
pub mod Pieces
pub mod Lasting
pub mod Scans
