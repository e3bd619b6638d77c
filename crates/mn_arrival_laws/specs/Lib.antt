pub mod Arrival
pub mod TwoLinks
