-- The words of other crates that most clauses here cite, passed on from one place. Declares nothing.
pub use Rattle.mn_ledger.specs.Prelude.{fits, injects}
pub use Rattle.mn_entry.specs.Damages.{damage_fits}
pub use Rattle.mn_script.specs.Lines.{command_fits}
pub use Rattle.mn_ledger_laws.specs.Flight.{IsOpen}
pub use Rattle.mn_course_laws.specs.Coming.{earlier, delivery, next_arrival, ever}
pub use Rattle.mn_course_laws.specs.Course.{as_due, deliver, ends, one_by_one, is_journal_full, played, stepped, all, most_of, inputs_of}
pub use Rattle.mn_net.specs.Now.{StandsFor}
