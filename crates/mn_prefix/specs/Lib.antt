pub mod Prefix
pub mod Longest
pub mod Table
pub mod Places
pub mod Octets
