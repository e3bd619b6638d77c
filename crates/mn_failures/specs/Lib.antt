pub mod Cutting
pub mod Language
pub mod Meaning
pub mod Failures
