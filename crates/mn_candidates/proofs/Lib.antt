pub mod Adding
pub mod Choosing
pub mod OfLedger
pub mod Preferring
pub mod Ranges
