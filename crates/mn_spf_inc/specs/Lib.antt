pub mod Ways
pub mod Nets
pub mod Mending
pub mod Mended
