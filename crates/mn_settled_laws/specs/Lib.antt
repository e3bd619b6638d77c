pub mod Offers
pub mod Routes
pub mod Ways
pub mod Arrival
pub mod TwoLinks
