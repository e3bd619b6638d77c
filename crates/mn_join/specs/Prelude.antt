-- The words of other crates that most clauses here cite, passed on from one place. Declares nothing.
pub use Rattle.mn_ledger.specs.Prelude.{fits, injects, packets_of}
pub use Rattle.mn_entry.specs.Damages.{damage_fits}
pub use Rattle.mn_script.specs.Lines.{command_fits}
pub use Rattle.mn_damage.specs.Refusals.{damage_refusal}
pub use Rattle.mn_course_laws.specs.Course.{all, most_of}
pub use Rattle.mn_join_laws.specs.Course.{refusal_on, handed_on, tried, stepped, deliver, played}
pub use Rattle.mn_join_laws.specs.Pairing.{Pairing, network, Both, side, with_plain_step, with_damage, at_first, travel, no_travel}
pub use Rattle.mn_join_laws.specs.declared.leg.Which.{Which}
pub use Rattle.mn_sched.specs.Playing.{limit_of}
