pub mod Way
pub mod Switched
