pub mod Prelude
pub mod Says
pub mod Grammar
pub mod Written
pub mod Reading
