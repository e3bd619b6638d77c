pub mod Spaces
pub mod Plain
pub mod Asked
pub mod Words
pub mod Journals
