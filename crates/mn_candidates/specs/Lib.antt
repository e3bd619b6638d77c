pub mod Pairs
pub mod Routes
