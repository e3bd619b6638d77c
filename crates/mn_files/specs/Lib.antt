pub mod Prelude
pub mod Numbers
