-- The routes of an UPDATE that is read have labels of 20 bits.
use Rattle.std.proofs.Common.{ℕ, List, [], ◌∷◌, sym, subst}
use Rattle.std.specs.Prelude.{Option, Some, None}
use Rattle.mn_vpn_nlri.specs.declared.message.VpnRoute.{VpnRoute}
use Rattle.mn_vpn_nlri.specs.Grammar.{AreNlri}
use Rattle.mn_bgp_wire.specs.Says.{Says}
use Rattle.mn_bgp_wire.specs.Grammar.{IsBgp, SayReach, mp_reach_kind, value_of}
use Rattle.mn_bgp_wire.specs.declared.message.BgpMessage.TheVariants.{Update}
use Rattle.mn_pe.specs.Pe.{AreLabelled}

nlri_labels : (routes : List VpnRoute) (bytes : List ℕ) → AreNlri bytes routes → AreLabelled routes
nlri_labels [] bytes h = tt
nlri_labels (r ∷ rs) bytes h = (h.3.is_route.label, nlri_labels rs h.1 h.4)

reach_labels : (value : Option (List ℕ)) (hop : ℕ) (routes : List VpnRoute) → SayReach value hop routes → AreLabelled routes
reach_labels None hop routes h = subst AreLabelled (sym h.1) tt
reach_labels (Some value) hop routes h = nlri_labels routes h.nlri h.are_routes

pub read_labels : (bytes : List ℕ) (says : Says) → IsBgp bytes (Update says) → AreLabelled says.reached
read_labels bytes says h = reach_labels (value_of mp_reach_kind h.is_body.attributes) says.next_hop says.reached h.is_body.are_attributes.reach
