pub mod Prelude
pub mod Telling
pub mod States
pub mod Frames
