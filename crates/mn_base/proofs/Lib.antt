pub mod Bools
pub mod Members
pub mod Rules
pub mod Bytes
pub mod Places
pub mod Orders
pub mod Changes
pub mod Kept
