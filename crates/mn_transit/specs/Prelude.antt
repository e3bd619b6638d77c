-- The words of other crates that most clauses here cite, passed on from one place. Declares nothing.
pub use Rattle.mn_wiring.specs.Wiring.{channel}
pub use Rattle.mn_stack.specs.Grammar.{is_packet}
pub use Rattle.mn_lfib.specs.Hop.{carried_ttl}
pub use Rattle.mn_paths.specs.Visits.{path_of, further}
pub use Rattle.mn_flight.specs.Earliest.{earliest}
pub use Rattle.mn_flight.specs.Flying.{on_channel, without, IsFlight, off_channel}
pub use Rattle.mn_frame_laws.specs.Arrivals.{sent}
pub use Rattle.mn_frame_laws.specs.Departures.{with_outer}
pub use Rattle.mn_frame_laws.specs.Entries.{IsPushed, outer_for}
pub use Rattle.mn_frame_laws.specs.Given.{Labelling}
pub use Rattle.mn_frame_laws.specs.Tables.{AreMapped, TableStands}
pub use Rattle.mn_pe.specs.Entries.{IsItsFate}
pub use Rattle.mn_timetable_laws.specs.Keys.{key_of, keys_in, is_past, keys_in_time, FlyInOrder}
