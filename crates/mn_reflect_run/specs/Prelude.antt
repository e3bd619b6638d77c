-- The words of other crates that most clauses here cite, passed on from one place. Declares nothing.
pub use Rattle.mn_edge.specs.Faults.{Counted, CountedUnless}
pub use Rattle.mn_edge.specs.Files.{Absent, file}
pub use Rattle.mn_ledger.specs.Prelude.{most_script_lines, IsLawful, Network}
pub use Rattle.mn_text.specs.Addresses.{prefix_text}
pub use Rattle.mn_script.specs.Words.{texts}
pub use Rattle.mn_reflect_ledger_laws.specs.Picks.{is_reflector}
pub use Rattle.mn_reflect_ledger_laws.specs.World.{world_of}
pub use Rattle.mn_bgp_spelling_laws.specs.Spelling.{Labels}
pub use Rattle.mn_routing_laws.specs.Sources.{source_from}
pub use Rattle.mn_reflect_world_laws.specs.Steps.{may_peer, takes}
pub use Rattle.mn_reflect_telling.specs.Mentions.{numbers_of}
pub use Rattle.mn_reflect.specs.Course.{IsRun}
pub use Rattle.mn_lines.specs.Lines.{refused_line, cause_text}
pub use Rattle.mn_lines.specs.Putting.{PartPut}
pub use Rattle.mn_tables.specs.Telling.{standing, Tells}
pub use Rattle.mn_answer.specs.Endings.{OutcomeIs, TextIs, CausedBy, SinkCausedBy, HasNone, Answers}
pub use Rattle.mn_answer.specs.Inputs.{IsSound}
