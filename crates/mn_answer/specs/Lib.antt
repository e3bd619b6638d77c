pub mod Refusals
pub mod Answer
pub mod Inputs
pub mod Endings
pub mod Status
