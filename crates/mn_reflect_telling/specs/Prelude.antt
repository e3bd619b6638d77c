-- The words of other crates that most clauses here cite, passed on from one place. Declares nothing.
pub use Rattle.mn_base.specs.Ordered.{with_one}
pub use Rattle.mn_bgp_wire.specs.Grammar.{IsBgp}
pub use Rattle.mn_bgp_wire.specs.Says.{Says}
pub use Rattle.mn_bgp_wire.specs.Written.{says_announced, says_withdrawn}
pub use Rattle.mn_offers.specs.Heard.{heard_at}
pub use Rattle.mn_pe.specs.Pe.{AreLabelled}
pub use Rattle.mn_reflect_ledger_laws.specs.Picks.{is_reflector}
pub use Rattle.mn_reflect_ledger_laws.specs.Words.{key_before}
pub use Rattle.mn_edges.specs.Said.{IsSayable, AreSayable}
pub use Rattle.mn_reflect_world_laws.specs.Choice.{names_in, all_names, Row, offered_of, reflected_to}
pub use Rattle.mn_reflect_world_laws.specs.Goes.{decision_says}
pub use Rattle.mn_reflect_world_laws.specs.Letters.{says_same, change_letters, vpn_route_of, next_hop, reflector_news, reflector_offers, export_letter}
pub use Rattle.mn_reflect_world_laws.specs.Letters.{edge_news}
