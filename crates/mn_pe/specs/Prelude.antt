-- The words of other crates that most clauses here cite, passed on from one place. Declares nothing.
pub use Rattle.mn_base.specs.Ordered.{Ascends}
pub use Rattle.mn_ledger.specs.Prelude.{longest_match, first_of}
pub use Rattle.mn_targets.specs.Targets.{target_set, has_target}
pub use Rattle.mn_bgp_wire.specs.Grammar.{IsBgp}
pub use Rattle.mn_bgp_wire.specs.Says.{Says}
pub use Rattle.mn_bgp_wire.specs.declared.message.BgpMessage.TheVariants.{Update}
pub use Rattle.mn_vrf.specs.Routes.{found_among, is_open, sources_of}
pub use Rattle.mn_vrf.specs.Vrf.{VrfState, with_static, without_static, with_imports, with_exports, add_refused, del_refused, set_refused, refusal_of, Holding}
pub use Rattle.mn_vrf.specs.Vrf.{heads, IsHeldAt}
pub use Rattle.mn_frame_laws.specs.Given.{Labelling}
