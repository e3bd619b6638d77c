-- The words of other crates that most clauses here cite, passed on from one place. Declares nothing.
pub use Rattle.mn_flight.specs.Flying.{IsFlight, off_channel}
pub use Rattle.mn_flight.specs.declared.Item.{Item}
pub use Rattle.mn_bgp_wire.specs.Grammar.{IsBgp}
pub use Rattle.mn_bgp_wire.specs.declared.refusal.BgpWireBad.TheVariants.{NoMemory}
pub use Rattle.mn_vrf.specs.Vrf.{VrfState, add_refused, del_refused, set_refused}
pub use Rattle.mn_ledger.specs.Prelude.{Network, home_of, edge_of, loopback}
pub use Rattle.mn_frame_laws.specs.Entries.{AreWays}
pub use Rattle.mn_frame_laws.specs.Given.{Labelling, given}
pub use Rattle.mn_frame_laws.specs.Numbers.{labels_of}
pub use Rattle.mn_pe.specs.Edge.{vrf_of_site, after_attach, after_detach, Edge, after_message}
pub use Rattle.mn_pe.specs.Entries.{IsItsFate, StandsAtEntry, IsWayOpen, IsBoundBelow, route_for, route_among, entered_at, entered_among}
pub use Rattle.mn_pe.specs.Exports.{exports_at, exports_over, export_of}
pub use Rattle.mn_pe.specs.Header.{destination_of}
pub use Rattle.mn_pe.specs.Held.{exports_of}
pub use Rattle.mn_pe.specs.Pe.{found_in}
pub use Rattle.mn_edges.specs.Changes.{working, those_of, AreNews, export_set, static_added, static_deleted}
pub use Rattle.mn_edges.specs.Said.{AreSayable}
pub use Rattle.mn_routing_laws.specs.Doing.{HasEdge, Puts, edge_at, with_edge}
pub use Rattle.mn_routing_laws.specs.Doing.{MaySetImport, SetsImport, MaySetExport, SetsExport, MayAdd, Adds, MayDel, Dels, MayAttach, Attaches, MayDetach}
pub use Rattle.mn_routing_laws.specs.Doing.{Detaches, AreLabelledIn, with_end, open_to, forgotten, next_on, taken, channel_from, MayTurn, Opens}
pub use Rattle.mn_routing_laws.specs.Doing.{Ends, IsAnswered, MayHear, CanHear, Hears, answers_in}
pub use Rattle.mn_routing_laws.specs.Routed.{IsRoutes}
pub use Rattle.mn_routing_laws.specs.Sending.{news_in, put_all, to_each, news_to, bgp_state_by}
pub use Rattle.mn_routing_laws.specs.Sources.{as_held}
pub use Rattle.mn_routing_laws.specs.Whole.{opened, update_of}
