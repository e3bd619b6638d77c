pub mod Mesh
pub mod Settled
pub mod Run
pub mod Whole
pub mod Alike
pub mod Joined
pub mod Witness
