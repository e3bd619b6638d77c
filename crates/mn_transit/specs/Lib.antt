pub mod Prelude
pub mod Moving
pub mod Stands
pub mod Entering
pub mod Aging
pub mod Landed
pub use Rattle.mn_frame_laws.specs.Given
pub use Rattle.mn_paths.specs.Visits
