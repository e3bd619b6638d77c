-- The words of other crates that most clauses here cite, passed on from one place. Declares nothing.
pub use Rattle.mn_edge.specs.Faults.{Counted}
pub use Rattle.mn_base.specs.Limits.{most_steps, most_script_lines}
pub use Rattle.mn_wiring.specs.Wiring.{View}
pub use Rattle.mn_linkdb.specs.Trees.{IsTree}
pub use Rattle.mn_flood_laws.specs.Course.{FloodRun, drain_for, every_hearing, with_line}
pub use Rattle.mn_flood_laws.specs.Flood.{Hear, flooded}
pub use Rattle.mn_topo.specs.Network.{wiring_of}
pub use Rattle.mn_flood.specs.Floods.{first_flood, happened, refusal_of}
pub use Rattle.mn_lines.specs.Lines.{refused_line}
pub use Rattle.mn_lines.specs.Putting.{PartPut}
pub use Rattle.mn_tables.specs.Telling.{standing, Tells}
pub use Rattle.mn_answer.specs.Endings.{OutcomeIs, TextIs, CausedBy, SinkCausedBy, HasNone, Answers}
