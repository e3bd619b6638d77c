pub mod Prelude
pub mod Inside
