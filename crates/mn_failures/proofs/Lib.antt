pub mod Bytes
pub mod Comments
pub mod Wording
pub mod Pieces
pub mod Front
pub mod Gathering
pub mod Lines
