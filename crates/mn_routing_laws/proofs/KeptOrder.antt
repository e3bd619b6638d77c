-- The edge that the ledger speaks of keeps its lists in order: so what `IsKept` asks is met.
use Rattle.std.proofs.Common.{ℕ, zero, suc, ◌≡◌, ◌+◌, ◌<◌, Bool, true, false, List, [], ◌∷◌, map, filter, length, arith, subst, Option, Some, None}
use Rattle.std.specs.Prelude.{◌==◌, nat_lt, slice_index_or, if◌then◌else◌, fold}
use Rattle.std.specs.List.{range_with_len, AllByRecursion}
use Rattle.std.proofs.lemmas.Bool.Decides.{nat_tests}
use Rattle.std.proofs.lemmas.List.FromFn.{length-map-range_with_len}
use Rattle.mn_base.specs.declared.numbers.Rt.{Rt}
use Rattle.mn_wiring.specs.Wiring.{nodes_of}
use Rattle.mn_topo.specs.Network.{Network, wiring_of}
use Rattle.mn_vpn_nlri.specs.declared.message.VpnRoute.{VpnRoute}
use Rattle.mn_bgp_wire.specs.Says.{Says}
use Rattle.mn_ledger.specs.Places.{vrf_of, edge_of, vrfs_at}
use Rattle.mn_ledger.specs.World.{Config, Telling, Peerings}
use Rattle.mn_ledger.specs.Bgp.{peers_live}
use Rattle.mn_ledger.specs.Held.{heard_of}
use Rattle.mn_ledger.proofs.Members.{in_map}
use Rattle.mn_ledger.proofs.Turning.{Apart}
use Rattle.mn_base.specs.Ordered.{Ascends}
use Rattle.mn_base.proofs.Places.{fold_ascends, ascends_filter, ascends_with, ascends_without}
use Rattle.mn_rib_in.specs.Heard.{Heard, heard_before, place_of, with_heard, without_heard}
use Rattle.mn_rib_in.proofs.Orders.{heard_order}
use Rattle.mn_vrf.specs.Vrf.{VrfState, static_before}
use Rattle.mn_pe.specs.Edge.{after_withdrawn, after_reached}
use Rattle.mn_bgp_spelling_laws.specs.Spelling.{Labels}
use Rattle.mn_routing_laws.specs.Standing.{static_of, vrf_in, says_of, heard_if, heard_in, edge_in}
use Rattle.mn_routing_laws.proofs.Removing.{static_order}
use Rattle.mn_pe.proofs.OnePlaces.{IsKept}

less_is : (m n : ℕ) → m < n → nat_lt m n ≡ true
less_is m n h = grind (arith, nat_tests, h)

all_above : (low from size : ℕ) → low < from → AllByRecursion (λ n. nat_lt low n ≡ true) (range_with_len from size)
all_above low from zero h = tt
all_above low from (suc size) h = (less_is low from h, all_above low (from + 1) size (omega (arith, h)))

range_ascends : (from size : ℕ) → Ascends nat_lt (range_with_len from size)
range_ascends from zero = tt
range_ascends from (suc size) = (all_above from (from + 1) size (omega arith), range_ascends (from + 1) size)

all_numbers : (t : Network) (c : Config) (u : ℕ) (us : List ℕ) → AllByRecursion (λ n. nat_lt u n ≡ true) us →
    AllByRecursion (λ (w : VrfState). nat_lt u w.number ≡ true) (map (vrf_in t c) us)
all_numbers t c u [] h = tt
all_numbers t c u (w ∷ us) h = (h.0, all_numbers t c u us h.1)

vrfs_ascend : (t : Network) (c : Config) (us : List ℕ) → Ascends nat_lt us → Ascends (λ (u w : VrfState). nat_lt u.number w.number) (map (vrf_in t c) us)
vrfs_ascend t c [] h = tt
vrfs_ascend t c (u ∷ us) h = (all_numbers t c u us h.0, vrfs_ascend t c us h.1)

-- what was received
withdrawn_ascends : (hs : List Heard) (routes : List VpnRoute) → Ascends heard_before hs → Ascends heard_before (after_withdrawn hs routes)
withdrawn_ascends hs [] h = h
withdrawn_ascends hs (r ∷ routes) h = withdrawn_ascends (without_heard r.rd r.prefix hs) routes (ascends_without heard_before (place_of r.rd r.prefix) hs h)

reached_ascends : (targets : List Rt) (hs : List Heard) (routes : List VpnRoute) → Ascends heard_before hs →
    Ascends heard_before (after_reached targets hs routes)
reached_ascends targets hs [] h = h
reached_ascends targets hs (r ∷ routes) h = reached_ascends targets
    (with_heard (record { rd = r.rd; prefix = r.prefix; label = r.label; targets = targets }) hs) routes
    (ascends_with heard_before (record { rd = r.rd; prefix = r.prefix; label = r.label; targets = targets }) hs heard_order h)

if_ascends : (hs : List Heard) (says : Option Says) → Ascends heard_before hs → Ascends heard_before (heard_if hs says)
if_ascends hs None h = h
if_ascends hs (Some says) h = reached_ascends says.targets (after_withdrawn hs says.withdrawn) says.reached (withdrawn_ascends hs says.withdrawn h)

from_ascends : (t : Network) (l : Labels) (q : ℕ) (hs : List Heard) (ms : List Telling) → Ascends heard_before hs →
    Ascends heard_before (fold (λ heard telling. heard_if heard (says_of t l q telling)) hs ms)
from_ascends t l q hs [] h = h
from_ascends t l q hs (m ∷ ms) h = from_ascends t l q (heard_if hs (says_of t l q m)) ms (if_ascends hs (says_of t l q m) h)

heard_ascends : (t : Network) (l : Labels) (c : Config) (p : Peerings) (e q : ℕ) → Ascends heard_before (heard_in t l c p e q)
heard_ascends t l c p e q = by_tests (q == e) (peers_live c e q) _ (from_ascends t l q [] (heard_of p e q) tt)
  where
    by_tests : (a b : Bool) (hs : List Heard) → Ascends heard_before hs → Ascends heard_before (if a then [] else if b then hs else [])
    by_tests true b hs h = tt
    by_tests false true hs h = h
    by_tests false false hs h = tt

one_at : {A : Type 0} (P : A → Type 0) (f : ℕ → A) (xs : List ℕ) (k : ℕ) (d : A) → ((x : ℕ) → P (f x)) → P d → P (slice_index_or (map f xs) k d)
one_at P f [] k d h g = g
one_at P f (x ∷ xs) zero d h g = h x
one_at P f (x ∷ xs) (suc k) d h g = one_at P f xs k d h g

pub kept_in : (t : Network) (l : Labels) (c : Config) (p : Peerings) (e : ℕ) → Apart t → IsKept (edge_in t l c p e)
kept_in t l c p e apart = record {
  statics = λ vrf i.
      let m = in_map (vrf_in t c) (vrfs_at t e) vrf i in
      subst (λ (w : VrfState). Ascends static_before w.statics) m.2
      (fold_ascends static_before [] (map static_of (filter (λ static. vrf_of t static.site == m.0) c.statics)) static_order tt);
  vrfs = vrfs_ascend t c (vrfs_at t e) (ascends_filter nat_lt (λ v. edge_of t v == e) (range_with_len 0 (length t.vrfs)) (range_ascends 0 (length t.vrfs)));
  heard = λ k. one_at (Ascends heard_before) (heard_in t l c p e) (nodes_of (wiring_of t)) k [] (heard_ascends t l c p e) tt;
  loopbacks = λ j k d h g. apart j k (omega (arith, h, size)) (omega (arith, g, size)) d;
}
  where
    size : length (map (heard_in t l c p e) (range_with_len 0 (length t.loopbacks))) ≡ length t.loopbacks
    size = length-map-range_with_len (heard_in t l c p e) 0 (length t.loopbacks)
