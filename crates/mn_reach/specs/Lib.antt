pub mod Plans
pub mod Reaching
pub mod Verdicts
pub mod Spared
pub mod Touched
pub mod Finding
