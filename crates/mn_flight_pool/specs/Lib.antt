pub mod Cells
pub mod Nodes
pub mod Rings
pub mod Ticks
pub mod ByDue
pub mod Pool
pub mod Whole
pub mod Newest
