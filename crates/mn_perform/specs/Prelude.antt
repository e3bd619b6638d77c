-- The words of other crates that most clauses here cite, passed on from one place. Declares nothing.
pub use Rattle.mn_edge.specs.Files.{Absent, Files}
pub use Rattle.mn_edge.specs.Kept.{Framed, Lacking, BeginsOn, HoldsOn, none_held}
pub use Rattle.mn_edge.specs.Laid.{named}
pub use Rattle.mn_edge.specs.Written.{laid, PartWritten, texts}
pub use Rattle.mn_ledger.specs.Prelude.{most_script_lines, Network, JournalEntry, packets_of}
pub use Rattle.mn_pcap.specs.Reading.{end_of}
pub use Rattle.mn_script.specs.Lines.{command_fits}
pub use Rattle.mn_script.specs.Script.{AllFit}
pub use Rattle.mn_course_laws.specs.Course.{inputs_of, played}
pub use Rattle.mn_course_laws.specs.Expansion.{sending_by, Expansion, with_line, start_of, expanded}
pub use Rattle.mn_net_laws.specs.Now.{StandsFor}
pub use Rattle.mn_lines.specs.Putting.{PutOn, PartPut, Puts, PutsPart}
pub use Rattle.mn_output_laws.specs.Report.{packet_for}
pub use Rattle.mn_output_laws.specs.Tables.{table_text}
pub use Rattle.mn_report.specs.Frames.{packet_of}
pub use Rattle.mn_report.specs.Shown.{sending_of, shown_text}
pub use Rattle.mn_sched.specs.Playing.{is_show, IsPaced, past_of, Takes, After, Caused, MissingIff, names_no_record}
pub use Rattle.mn_sched.specs.Watching.{Found, Together, is_record, LastFits}
pub use Rattle.mn_edge.specs.Faults.{Counted, CountedUnless}
pub use Rattle.mn_edge.specs.Memory.{all_differ}
pub use Rattle.mn_pcap.specs.Format.{header, record_of}
pub use Rattle.mn_entry.specs.Entries.{entry_fits}
pub use Rattle.mn_journal.specs.Lines.{line_of}
pub use Rattle.mn_frame_laws.specs.Given.{given}
pub use Rattle.mn_sched.specs.Told.{told_at}
pub use Rattle.mn_output_laws.specs.Contents.{head_of, label_lines, ppp, label_line, delivery_record}
pub use Rattle.mn_output_laws.specs.Files.{Frames, files_of, file_name}
pub use Rattle.mn_files.specs.Numbers.{edge_places}
