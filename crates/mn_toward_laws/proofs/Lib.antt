pub mod Back
pub mod Spared
