-- The words of other crates that most clauses here cite, passed on from one place. Declares nothing.
pub use Rattle.mn_edge.specs.Faults.{Counted}
pub use Rattle.mn_ledger.specs.Prelude.{receiver, sender, wiring_of, bgp_state_of, HeldRoute, Far, Frames, items_on, World}
pub use Rattle.mn_text.specs.Addresses.{prefix_text}
pub use Rattle.mn_ledger.specs.Held.{Own, Near}
pub use Rattle.mn_ledger.specs.Items.{Item}
pub use Rattle.mn_frame_laws.specs.Given.{Labelling, label_at}
pub use Rattle.mn_course_laws.specs.declared.coming.Kind.TheVariants.{Notice, Message}
pub use Rattle.mn_lines.specs.Lines.{text}
pub use Rattle.mn_output_laws.specs.Files.{node_name}
pub use Rattle.mn_output_laws.specs.Tables.{bgp_line, bgp_name, frames_line, vrf_name, mark_text, marked_line, route_line}
