pub mod Prelude
pub mod Course
pub mod Shape
pub mod Doing
pub mod Changing
pub mod Causes
pub mod Acting
