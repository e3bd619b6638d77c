pub mod Stands
pub mod Stepped
pub mod Counted
pub use Rattle.mn_transit.specs.Moving
pub use Rattle.mn_transit.specs.Stands as TransitStands
