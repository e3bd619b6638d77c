pub mod Rest
pub mod Fates
pub mod Candidates
pub mod TwoLinks
pub mod TwoHomes
