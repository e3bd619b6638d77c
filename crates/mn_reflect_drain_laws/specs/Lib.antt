pub mod Drain
pub mod Ahead
pub mod Draining
