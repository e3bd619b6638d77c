pub mod Putting
mod Waiting
pub mod Pieces
