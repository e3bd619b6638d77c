pub mod Keys
pub mod Made
pub mod Timed
pub mod FrameKeys
pub mod OtherKeys
