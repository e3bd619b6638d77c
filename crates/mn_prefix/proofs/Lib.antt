pub mod Blocks
pub mod Tables
pub mod Matches
pub mod PrefixBytes
