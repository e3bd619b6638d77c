pub mod Prelude
pub mod Rows
pub mod Shown
pub mod Packets
pub mod Frames
pub mod Routes
