pub mod Says
pub mod Items
pub mod Grammar
pub mod Written
pub mod Reading
