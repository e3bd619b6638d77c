pub mod Damages
pub mod Entries
