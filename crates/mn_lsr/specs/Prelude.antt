-- The words of other crates that most clauses here cite, passed on from one place. Declares nothing.
pub use Rattle.mn_base.specs.Limits.{most_labels}
pub use Rattle.mn_wiring.specs.Wiring.{Wiring, is_end, across, joining, JoinsNodes}
pub use Rattle.mn_node.specs.Ldp.{Message, said_on}
pub use Rattle.mn_node.specs.Machine.{Event, fresh_node, Learns, Opens, Closes, changed, said, after_event, loopback_of}
pub use Rattle.mn_node.specs.Node.{session_at, Node, Session, view_in}
pub use Rattle.mn_linkdb.specs.PathTable.{IsTable}
pub use Rattle.mn_linkdb.specs.Trees.{IsTree}
pub use Rattle.mn_labels.specs.Labels.{none_given, own_labels, greatest, attached, attachments_in, meaning_of, IsTold, offered, label_now, numbers}
pub use Rattle.mn_lfib.specs.Forwarding.{forwarded}
pub use Rattle.mn_lfib.specs.Uses.{use_of, fec_use, IsNotSite, IsNextHop}
pub use Rattle.mn_releases.specs.Rests.{at_first}
pub use Rattle.mn_bindings.specs.Bindings.{after_events, nodes, usable, EventsFit}
pub use Rattle.mn_bindings.specs.Known.{known_after, is_free, AreFew}
pub use Rattle.mn_bindings.specs.News.{begun, InOrder, AreBelow, Apart, fecs_in}
pub use Rattle.mn_bindings.specs.Tells.{tells}
pub use Rattle.mn_ldp_wire.specs.Grammar.{IsLawful, written, IsWritable, IsLabel}
pub use Rattle.mn_ldp_session.specs.Routers.{routers_in_a_row}
pub use Rattle.mn_ldp_session.specs.Spelling.{AreSpelled, message_in, pdus, body_of, id_of, node_of, pdu}
