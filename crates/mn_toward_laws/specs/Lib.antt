pub mod Toward
pub mod Spared
