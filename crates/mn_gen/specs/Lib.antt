pub mod Shape
pub mod Topology
pub mod Script
pub mod Capture
