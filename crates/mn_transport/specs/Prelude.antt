-- The words of other crates that most clauses here cite, passed on from one place. Declares nothing.
pub use Rattle.mn_linkdb.specs.Changes.{is_odd, is_link_up}
pub use Rattle.mn_labels.specs.Labels.{greatest, attachments_in}
pub use Rattle.mn_flight.specs.Flying.{IsFlight}
pub use Rattle.mn_lsr.specs.Said.{pdu_of}
pub use Rattle.mn_lsr.specs.Standing.{Standing, FitsOuter}
pub use Rattle.mn_reuse_laws.specs.Labels.{longest_life}
pub use Rattle.mn_frame_laws.specs.Entries.{outer_for, AreWays}
pub use Rattle.mn_frame_laws.specs.Given.{given, label_at}
pub use Rattle.mn_timetable_laws.specs.Keys.{channel_from}
pub use Rattle.mn_timetable_laws.specs.Steps.{pushed}
pub use Rattle.mn_transport_laws.specs.Acting.{turned_by, MayAct, MayHear, Acts}
pub use Rattle.mn_transport_laws.specs.Doing.{TurnsEnds, MayBoth, MayTurn, TurnsLink, MaySwitch, Switches, LearnsNext, CanHear, HearsNext}
pub use Rattle.mn_transport_laws.specs.Sending.{notices_to, put_pdus, off_link}
pub use Rattle.mn_transport_laws.specs.Stands.{IsTransport}
pub use Rattle.mn_transport_laws.specs.Starting.{first_label, AreFirst}
pub use Rattle.mn_transport_laws.specs.Steps.{HasTurn, MayDo, Did}
