pub mod Language
pub mod Joints
