-- The words of other crates that most clauses here cite, passed on from one place. Declares nothing.
pub use Rattle.mn_edge.specs.Faults.{CountedUnless}
pub use Rattle.mn_edge.specs.Files.{file}
pub use Rattle.mn_edge.specs.Written.{texts}
pub use Rattle.mn_ledger.specs.Prelude.{most_script_lines}
pub use Rattle.mn_script.specs.Script.{AllFit}
pub use Rattle.mn_answer.specs.Endings.{OutcomeIs, TextIs, SinkCausedBy, HasNone, Answers, FilesAre, CausedBy, UsageIff, Completes, EndsSoundly, IsLate}
pub use Rattle.mn_answer.specs.Endings.{IsUnread}
pub use Rattle.mn_answer.specs.Inputs.{IsSound}
pub use Rattle.mn_join_run.specs.Inside.{is_inside}
pub use Rattle.mn_join_run.specs.Memory.{packets_at}
