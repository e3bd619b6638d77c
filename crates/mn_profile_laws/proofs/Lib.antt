pub mod Run
pub mod Choosing
pub mod Arriving
pub mod Telling
pub mod Labelled
pub mod Staying
pub mod Decided
pub mod Cases
