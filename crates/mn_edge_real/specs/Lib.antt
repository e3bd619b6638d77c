pub mod Reached
pub mod Sinks
pub mod Ends
pub mod Failures
pub mod Opened
