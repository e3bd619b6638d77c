pub mod Paths
pub mod Along
pub mod Homes
pub mod Holding
pub mod Resting
pub mod First
pub mod Cases
pub mod Homed
