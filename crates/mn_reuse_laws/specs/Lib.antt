pub mod Answers
pub mod Resting
pub mod Labels
pub mod Laws
pub mod Relabelled
