pub mod Tallies
pub mod Laws
pub mod Rising
pub use Rattle.mn_net_parts_laws.specs.Moving
pub use Rattle.mn_net_parts_laws.specs.TransitStands as Stands
pub use Rattle.mn_net_parts_laws.specs.Stands as NetModelStands
