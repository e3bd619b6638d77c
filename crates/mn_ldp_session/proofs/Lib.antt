pub mod Hearable
pub mod InARow
