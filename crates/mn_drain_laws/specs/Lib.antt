pub mod Sums
pub mod Weights
pub mod Ahead
pub mod Drain
pub mod Draining
