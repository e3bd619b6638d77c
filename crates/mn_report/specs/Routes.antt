-- What is shown of a prefix that a VRF holds: RFC 4364, section 3; RFC 4271, section 9.1.2.
use Rattle.std.specs.Prelude.{◌≡◌, ℕ, Bool, List, Some}
use Rattle.mn_prefix.specs.Prefix.{AddressBlock}
use Rattle.mn_topo.specs.Network.{Network}
use Rattle.mn_ledger.specs.Places.{edge_of}
use Rattle.mn_ledger.specs.World.{World}
use Rattle.mn_ledger.specs.Held.{HeldRoute}
use Rattle.mn_frame_laws.specs.Given.{Labelling}
use Rattle.mn_pe.specs.Entries.{source_of}
use Rattle.mn_vrf.specs.declared.source.Source.{Source}
use Rattle.mn_ledger.specs.Heads.{best_for}
use Rattle.mn_output_laws.specs.Tables.{is_unresolved, shown_among}

-- the route of a prefix whose line is put, by its source and whether it isn't resolved
pub record IsShown (topology : Network) (world : World) (given : Labelling) (v : ℕ) (routes : List HeldRoute) (prefix : AddressBlock) (source : Source)
    (unresolved : Bool) : Type 0 where
  pub route : HeldRoute
  pub best : best_for (shown_among topology world (edge_of topology v) prefix routes) prefix ≡ Some route
  pub prefix_is : prefix ≡ route.prefix
  pub source_is : source ≡ source_of given route route.source
  pub mark_is : unresolved ≡ is_unresolved topology world (edge_of topology v) route
