pub mod Same
pub mod Routes
pub mod Fates
pub mod Told
pub mod Left
pub mod Cases
pub mod Homes
