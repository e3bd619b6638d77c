pub mod Flood
pub mod Laws
pub mod Drain
pub mod Course
pub mod ThreeInARow
