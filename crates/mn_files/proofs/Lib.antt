pub mod Numbered
pub mod Places
pub mod Reading
pub mod Differing
pub mod Texts
pub mod Finding
