-- The words of other crates that most clauses here cite, passed on from one place. Declares nothing.
pub use Rattle.mn_edge.specs.Faults.{Counted}
pub use Rattle.mn_edge.specs.declared.device.DeviceBad.TheVariants.{NoMemory}
pub use Rattle.mn_ledger.specs.Prelude.{most_steps, packets_of, world_of}
pub use Rattle.mn_text.specs.Addresses.{prefix_text}
pub use Rattle.mn_script.specs.Lines.{command_fits, show_fits}
pub use Rattle.mn_frame_laws.specs.Entries.{AreWays}
pub use Rattle.mn_frame_laws.specs.Given.{Labelling, given}
pub use Rattle.mn_pe.specs.Entries.{source_of}
pub use Rattle.mn_net.specs.Now.{StandsFor}
pub use Rattle.mn_lines.specs.Lines.{total_line}
pub use Rattle.mn_lines.specs.Putting.{Puts, PutsPart}
pub use Rattle.mn_output_laws.specs.Report.{packet_lines}
pub use Rattle.mn_output_laws.specs.Tables.{frames_lines, flight_lines, marked_line, shown_lines, held_in, table_text, tree_lines}
pub use Rattle.mn_tables.specs.Telling.{standing, Tells}
