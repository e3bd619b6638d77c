pub mod Entry
pub mod Grammar
pub mod Kept
pub mod Labelled
pub mod Reading
