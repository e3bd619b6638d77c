-- The words of other crates that most clauses here cite, passed on from one place. Declares nothing.
pub use Rattle.mn_base.specs.Numbers.{has_rt_form}
pub use Rattle.mn_wiring.specs.Wiring.{sender, receiver}
pub use Rattle.mn_wiring.specs.declared.links.Dir.TheVariants.{Forth}
pub use Rattle.mn_text.specs.Addresses.{address_text, prefix_text}
pub use Rattle.mn_text.specs.Numbers.{number_text}
pub use Rattle.mn_text.specs.Pairs.{pair_text, rt_text}
pub use Rattle.mn_text.specs.Words.{words}
pub use Rattle.mn_topo.specs.Network.{wiring_of}
pub use Rattle.mn_topo.specs.Steps.{fits}
pub use Rattle.mn_topo.specs.declared.steps.Damage.TheVariants.{Ldp, Bgp}
pub use Rattle.mn_topo.specs.declared.steps.JournalEntry.{JournalEntry}
pub use Rattle.mn_topo.specs.declared.steps.Step.TheVariants.{Carry, Inject}
pub use Rattle.mn_entry.specs.Damages.{damage_fits}
pub use Rattle.mn_entry.specs.Entries.{entry_fits}
pub use Rattle.mn_script.specs.Lines.{line_says}
pub use Rattle.mn_script.specs.Spelled.{node_text, vrf_text, site_text, from_text, to_text, step_words, damage_words}
pub use Rattle.mn_script.specs.Words.{line_words}
