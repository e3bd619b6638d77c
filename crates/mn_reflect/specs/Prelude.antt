-- The words of other crates that most clauses here cite, passed on from one place. Declares nothing.
pub use Rattle.mn_ledger.specs.Prelude.{most_targets, edge_of, home_of, vrf_at, loopback, agree}
pub use Rattle.mn_states.specs.declared.states.BgpState.TheVariants.{OpenSent}
pub use Rattle.mn_vrf.specs.Vrf.{VrfState, add_refused, del_refused, set_refused, refusal_of, IsHeldAt}
pub use Rattle.mn_mail.specs.Mail.{first_from_to}
pub use Rattle.mn_settled_laws.specs.Routes.{routes_of}
pub use Rattle.mn_pe.specs.Edge.{vrf_of_site, after_attach, after_detach, after_update}
pub use Rattle.mn_pe.specs.Exports.{exports_at, exports_over, export_of}
pub use Rattle.mn_pe.specs.Pe.{found_in, AreLabelled}
pub use Rattle.mn_reflect_ledger_laws.specs.Picks.{Spoken, is_reflector}
pub use Rattle.mn_reflect_ledger_laws.specs.Quiet.{held, IsJoined}
pub use Rattle.mn_reflect_ledger_laws.specs.Refusal.{refusal}
pub use Rattle.mn_reflect_ledger_laws.specs.Words.{Key, Word}
pub use Rattle.mn_reflect_ledger_laws.specs.World.{world_of}
pub use Rattle.mn_bgp_spelling_laws.specs.Spelling.{Labels}
pub use Rattle.mn_edges.specs.Changes.{AreNews, those_of}
pub use Rattle.mn_edges.specs.Said.{AreSayable}
pub use Rattle.mn_routing_laws.specs.Sources.{as_held}
pub use Rattle.mn_reflect_world_laws.specs.Choice.{row_at, all_names, Row, reflected_to, names_in}
pub use Rattle.mn_reflect_world_laws.specs.Goes.{edge_of_node, end_in, steady_of, decide_all, decision_says}
pub use Rattle.mn_reflect_world_laws.specs.Labels.{labels_of}
pub use Rattle.mn_reflect_world_laws.specs.Letters.{open_letter, reflector_offers, reflector_news}
pub use Rattle.mn_reflect_world_laws.specs.Now.{IsReflect}
pub use Rattle.mn_reflect_world_laws.specs.Spelling.{word_bytes}
pub use Rattle.mn_reflect_world_laws.specs.Steps.{first_hearing, takes}
pub use Rattle.mn_reflect_telling.specs.Mentions.{Shows, row_with, key_of_heard, numbers_of, AreNodes}
pub use Rattle.mn_reflect_telling.specs.Names.{named}
pub use Rattle.mn_reflect_telling.specs.Passing.{IsPassable, IfPassable}
pub use Rattle.mn_net_laws.specs.Refusal.{session_at, of_vrf, imports_it, exports_it, site_label, site_with}
