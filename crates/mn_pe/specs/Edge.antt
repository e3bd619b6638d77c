-- What contracts see of one edge's routes, and how each call changes it: RFC 4364, sections 3, 4.3 and 5.
use Rattle.std.specs.Prelude.{ℕ, ◌==◌, cond, List, [], ◌∷◌, map, slice_index_or, slice_set, Option, Some, None}
use Rattle.mn_base.specs.declared.numbers.Rt.{Rt}
use Rattle.mn_base.specs.declared.numbers.VrfNo.{VrfNo}
use Rattle.mn_vpn_nlri.specs.declared.message.VpnRoute.{VpnRoute}
use Rattle.mn_bgp_wire.specs.Says.{Says}
use Rattle.mn_vrf.specs.Vrf.{VrfState}
use Rattle.mn_rib_in.specs.Heard.{Heard, with_heard, without_heard}

pub record Edge : Type 0 where
  pub vrfs : List VrfState  -- in the order of numbers
  pub sites : List VrfNo  -- by site, its VRF
  pub labels : List (Option ℕ)  -- by site, the label of its present attachment at this edge
  pub loopbacks : List ℕ  -- by node
  pub heard : List (List Heard)  -- by node, what was received from it in the session's present life

-- the VRF of a site
abbrev pub vrf_of_site : Edge → ℕ → ℕ
vrf_of_site edge site = (slice_index_or edge.sites site (record { 0 = 0 })).0

-- the VRFs, with a change of one of them
abbrev pub on_vrf : ℕ → (VrfState → VrfState) → List VrfState → List VrfState
on_vrf v change vrfs = map (λ vrf. cond (vrf.number == v) (change vrf) vrf) vrfs

abbrev pub heard_of_peer : Edge → ℕ → List Heard
heard_of_peer edge peer = slice_index_or edge.heard peer []

-- withdrawals, and then announcements
abbrev pub after_withdrawn : List Heard → List VpnRoute → List Heard
after_withdrawn heard [] = heard
after_withdrawn heard (route ∷ routes) = after_withdrawn (without_heard route.rd route.prefix heard) routes

abbrev pub after_reached : List Rt → List Heard → List VpnRoute → List Heard
after_reached targets heard [] = heard
after_reached targets heard (route ∷ routes) =
    after_reached targets (with_heard (record { rd = route.rd; prefix = route.prefix; label = route.label; targets = targets }) heard) routes

-- as an UPDATE of a peer is received
abbrev pub heard_after : List Heard → Says → List Heard
heard_after heard says = after_reached says.targets (after_withdrawn heard says.withdrawn) says.reached

abbrev pub after_update : Edge → ℕ → Says → Edge
after_update edge peer says = record edge { heard = slice_set edge.heard peer (heard_after (heard_of_peer edge peer) says) }

-- as a message of a peer is received: an UPDATE, or another, which says no routes
abbrev pub after_message : Edge → ℕ → Option Says → Edge
after_message edge peer None = edge
after_message edge peer (Some says) = after_update edge peer says

-- as the peer's session ends
abbrev pub after_forget : Edge → ℕ → Edge
after_forget edge peer = record edge { heard = slice_set edge.heard peer [] }

abbrev pub after_attach : Edge → ℕ → ℕ → Edge
after_attach edge site label = record edge { labels = slice_set edge.labels site (Some label) }

abbrev pub after_detach : Edge → ℕ → Edge
after_detach edge site = record edge { labels = slice_set edge.labels site None }

abbrev pub after_vrf : Edge → ℕ → (VrfState → VrfState) → Edge
after_vrf edge v change = record edge { vrfs = on_vrf v change edge.vrfs }
