pub mod Arriving
mod Witness
pub mod Resolving
