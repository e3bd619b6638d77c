-- Where the tree hasn't moved, no next hop is another one.
use Rattle.std.proofs.Common.{ℕ, zero, suc, ◌≡◌, ◌+◌, ◌++◌, ◌<◌, Bool, true, false, List, [], ◌∷◌, length, get_or, refl, arith, sym, ◌∙◌, ap, Option, Some}
use Rattle.std.proofs.Common.{None}
use Rattle.std.specs.Prelude.{◌==◌, ◌||◌, if◌then◌else◌}
use Rattle.std.specs.List.{flat_map, range_with_len}
use Rattle.std.proofs.lemmas.List.FromFn.{get_or-map-range_with_len}
use Rattle.mn_base.specs.declared.numbers.NodeNo.{NodeNo}
use Rattle.mn_base.proofs.Bools.{or_right, same_test}
use Rattle.mn_wiring.specs.Wiring.{Wiring, JoinsNodes}
use Rattle.mn_wiring.specs.Paths.{next}
use Rattle.mn_wiring.proofs.Next.{next_is}
use Rattle.mn_wiring.proofs.Dist.{dists_are_least}
use Rattle.mn_linkdb.proofs.OneTree.{next_computed}
use Rattle.mn_linkdb.specs.Trees.{IsTree, hop_alone}
use Rattle.mn_linkdb.specs.PathTable.{PathTable, next_at}
use Rattle.mn_bindings.specs.declared.event.LibEvent.{LibEvent}
use Rattle.mn_bindings.specs.declared.event.LibEvent.TheVariants as event
use Rattle.mn_bindings.specs.Bindings.{Bindings}
use Rattle.mn_node.specs.Node.{Node, view_in}
use Rattle.mn_lsr.specs.Ties.{AreTied}
use Rattle.mn_lsr.specs.Parts.{same_hop, stays, hop_event}

same_self : (o : Option NodeNo) → same_hop o o ≡ true
same_self None = refl
same_self (Some hop) = same_test hop.0

pub all_stay : (w : Wiring) (n : Node) (b : Bindings) (table : PathTable) → JoinsNodes w → n.me < length w.loopbacks → AreTied w n b →
    IsTree w (view_in n) n.me table → (p : ℕ) → p < length w.loopbacks → stays n.me b.hops table p ≡ true
all_stay w n b table joins below tied tree p h =
    let hop : get_or b.hops p None ≡ hop_alone (next w (view_in n) n.me p) =
    ap (λ hs. get_or hs p None) tied.hops ∙ get_or-map-range_with_len (λ q. hop_alone (next w (view_in n) n.me q)) 0 (length w.loopbacks) p p None h
    (omega arith) in
    let there : next_at table p ≡ hop_alone (next w (view_in n) n.me p) =
    next_computed w (view_in n) n.me below (λ to. dists_are_least w (view_in n) to joins n.me below) (λ to. next_is w (view_in n) to joins n.me below) p
    table tree h in
    ap (λ o. (p == n.me) || same_hop o (next_at table p)) (hop ∙ sym there)
    ∙ or_right (p == n.me) (same_hop (next_at table p) (next_at table p)) (same_self (next_at table p))

pub none_new : (same : ℕ → Bool) (table : PathTable) (n q : ℕ) → ((k : ℕ) → k < q + n → same k ≡ true) →
    flat_map (hop_event same table) (range_with_len q n) ≡ []
none_new same table zero q all = refl
none_new same table (suc n) q all = by (same q) (all q (omega arith)) (none_new same table n (q + 1) (λ k h. all k (omega (arith, h))))
  where
    by : (x : Bool) → x ≡ true → flat_map (hop_event same table) (range_with_len (q + 1) n) ≡ [] →
        (let es : List LibEvent = if x then [] else event.Next (record { 0 = q }) (next_at table q) ∷ [] in es) ++ flat_map (hop_event same table)
        (range_with_len (q + 1) n) ≡ []
    by true e h = h
    by false e h = cc
