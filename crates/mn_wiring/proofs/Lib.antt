pub mod Dist
pub mod Next
pub use Rattle.mn_base.proofs.Bools
