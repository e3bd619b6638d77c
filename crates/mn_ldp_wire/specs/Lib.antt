pub mod Grammar
pub mod Message
pub mod Reading
pub mod Refused
