pub mod Changes
pub mod Network
pub mod Learned
pub mod PathTable
pub mod Trees
