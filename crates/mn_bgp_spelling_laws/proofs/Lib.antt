pub mod Wire
pub mod Coming
pub mod Writable
pub mod TwoEdges
