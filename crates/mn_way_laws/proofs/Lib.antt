pub mod Paths
pub mod Spared
pub mod TwoLinks
