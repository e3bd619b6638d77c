pub mod Walk
pub mod Values
pub mod Messages
pub mod Spelling
