pub mod Damages
pub mod Refusals
pub mod Allowed
pub mod Same
