-- The words of other crates that most clauses here cite, passed on from one place. Declares nothing.
pub use Rattle.mn_base.specs.Numbers.{has_rd_form}
pub use Rattle.mn_vpn_nlri.specs.Grammar.{IsAscending, AllTargets}
pub use Rattle.mn_vpn_nlri.specs.Reading.{IsBytes}
pub use Rattle.mn_bgp_wire.specs.Grammar.{IsBgp, kind_of, update_kind, value_of, marker, attribute_bytes}
pub use Rattle.mn_bgp_wire.specs.Reading.{message_of}
pub use Rattle.mn_bgp_wire.specs.Says.{Says}
pub use Rattle.mn_bgp_wire.specs.Written.{update_bytes}
