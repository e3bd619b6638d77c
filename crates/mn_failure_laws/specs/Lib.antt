pub mod Failures
pub mod Fates
pub mod TwoLinks
pub mod TwoHomes
