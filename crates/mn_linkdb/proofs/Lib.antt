pub mod Turns
pub mod OneTree
