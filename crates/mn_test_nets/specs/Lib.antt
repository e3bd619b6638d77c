pub mod Entries
pub mod Nets
