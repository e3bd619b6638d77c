pub mod Changes
pub mod Peers
pub mod Said
pub mod Start
