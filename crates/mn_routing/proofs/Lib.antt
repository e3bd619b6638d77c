pub mod Chains
pub mod Rows
pub mod Edges
pub mod Nobody
