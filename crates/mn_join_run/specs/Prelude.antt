-- The words of other crates that most clauses here cite, passed on from one place. Declares nothing.
pub use Rattle.mn_edge.specs.Faults.{Counted, CountedUnless}
pub use Rattle.mn_edge.specs.Files.{file, Files, Absent}
pub use Rattle.mn_edge.specs.Kept.{Framed, Lacking}
pub use Rattle.mn_edge.specs.Laid.{named}
pub use Rattle.mn_edge.specs.Written.{laid, texts, PartWritten}
pub use Rattle.mn_pcap.specs.Format.{header}
pub use Rattle.mn_capture.specs.Packets.{packets_in}
pub use Rattle.mn_topo_toml.specs.Topology.{topology_of}
pub use Rattle.mn_join_script.specs.Joints.{joints_of}
pub use Rattle.mn_script.specs.Reading.{lines_of}
pub use Rattle.mn_join_laws.specs.Course.{Exit, PairCourse}
pub use Rattle.mn_join_laws.specs.Pairing.{Pairing, network, at_first, Both, travel}
pub use Rattle.mn_join_script.specs.Language.{join_says, line_fits}
pub use Rattle.mn_tables.specs.Telling.{standing, Tells}
pub use Rattle.mn_join.specs.Pairs.{AreSites, AreApart, pairing_of, net_of, PairStands}
pub use Rattle.mn_perform.specs.Faults.{Blamed}
pub use Rattle.mn_perform.specs.Inside.{is_inside}
pub use Rattle.mn_perform.specs.Recorded.{told_packets}
pub use Rattle.mn_report.specs.Shown.{sending_of}
pub use Rattle.mn_answer.specs.Endings.{Answers, CausedBy, HasNone}
pub use Rattle.mn_answer.specs.Inputs.{IsSound, LinesAre, LinesFit}
pub use Rattle.mn_ledger.specs.Prelude.{packets_of, verdict_on}
pub use Rattle.mn_net_laws.specs.Now.{StandsFor}
pub use Rattle.mn_lines.specs.Lines.{text}
pub use Rattle.mn_lines.specs.Names.{names_of, name_at, ends_at, pairs_of, sender_of, hearer_of}
