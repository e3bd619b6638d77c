pub mod Front
pub mod Courses
pub mod Drains
pub mod Trees
pub mod Rows
pub mod Plays
pub mod Endings
