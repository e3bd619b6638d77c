pub mod Targets
pub mod Places
