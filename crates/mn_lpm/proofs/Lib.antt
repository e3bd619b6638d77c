pub mod ByLength
pub mod LookUps
