pub mod Steady
pub mod Starts
