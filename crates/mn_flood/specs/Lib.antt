pub mod Queue
pub mod Links
pub mod World
pub mod Floods
