-- How many fly on a channel, as a flight counts them.
use Rattle.std.proofs.Common.{ℕ, zero, suc, ◌≡◌, ◌+◌, ◌*◌, ◌<◌, ◌≤◌, Bool, true, false, not, List, [], ◌∷◌, length, map, refl, arith, sym, ap, subst, ◌∙◌}
use Rattle.std.proofs.Common.{Option, Some, None, IfSome}
use Rattle.std.specs.Prelude.{◌==◌, ◌&&◌, ◌-◌, nat_le, nat_lt, is_some, slice_get, slice_index, slice_index_or}
use Rattle.mn_base.proofs.Bools.{and_left, and_right, at_most_is, not_at_most}
use Rattle.mn_base.proofs.Rules.{some_is}
use Rattle.mn_flight.specs.declared.Item.{Item}
use Rattle.mn_flight.specs.Flying.{on_channel}
use Rattle.mn_topo.specs.Lawful.{IsLawful}
use Rattle.mn_topo.specs.Network.{Network, nodes_with}
use Rattle.mn_topo.specs.VrfTable.{is_edge}
use Rattle.mn_timetable_laws.specs.Keys.{keys_in}
use Rattle.mn_timetable_laws.proofs.OtherKeys.{edge-below}
use Rattle.mn_net_parts_laws.proofs.Counted.{counted_in}
use Rattle.mn_lsr.specs.Standing.{Standing}
use Rattle.mn_transport_laws.specs.Carried.{Carried}
use Rattle.mn_routing_laws.specs.Routed.{Routed}
use Rattle.mn_net_laws.specs.Refusal.{count_on}
use Rattle.mn_net_laws.specs.Seen.{Labels, attachments_in, labels_asked}
use Rattle.mn_net.specs.Parts.{HaveSizes}
use Rattle.mn_net.proofs.AskedOfParts.{count_at}

pub none_on : {T : Type 0} (n c d : ℕ) (xs ys : List (Item T)) → n ≡ length (on_channel c xs) → c ≡ d → xs ≡ ys → (n == 0) ≡ (count_on d (keys_in ys) == 0)
none_on {T = T} n c d xs ys e f g =
    ap (λ m. m == 0) (e ∙ ap (λ k. length (on_channel k xs)) f ∙ ap (λ (zs : List (Item T)). length (on_channel d zs)) g ∙ counted_in d ys)

pub none_at : {T : Type 0} (n d place : ℕ) (xs : List (Item T)) → n ≡ length (on_channel d xs) → nat_le n place ≡ nat_le (count_on d (keys_in xs)) place
none_at n d place xs e = ap (λ m. nat_le m place) (e ∙ counted_in d xs)

pub as_many_nodes : (loopbacks : List ℕ) → length (nodes_with loopbacks) ≡ length loopbacks
as_many_nodes [] = refl
as_many_nodes (l ∷ loopbacks) = ap suc (as_many_nodes loopbacks)

-- the two edges of a BGP step have an end of a session each
pub ends_there : {carried : Carried} {routed : Routed} (t : Network) → IsLawful t → HaveSizes t carried routed → (a b : ℕ) →
    ((is_edge t.vrfs a && is_edge t.vrfs b) && nat_lt a b) ≡ true →
    (a < length routed.sessions) × (b < length (slice_index_or routed.sessions a []))
ends_there {routed = routed} t lawful sizes a b h =
    let both = and_left (is_edge t.vrfs a && is_edge t.vrfs b) (nat_lt a b) h in
    let first = edge-below t lawful a (and_left (is_edge t.vrfs a) (is_edge t.vrfs b) both) in (
      subst (λ n. a < n) (sym sizes.sessions) first,
      subst (λ n. b < n) (sym (sizes.peers a first)) (edge-below t lawful b (and_right (is_edge t.vrfs a) (is_edge t.vrfs b) both)),
    )

pub switch_at : (xs : List Bool) (i : ℕ) (b : Bool) → slice_get xs i ≡ Some b → b ≡ slice_index_or xs i false
switch_at [] i b e = cc
switch_at (x ∷ xs) zero b e = sym (some_is x b e)
switch_at (x ∷ xs) (suc i) b e = switch_at xs i b e

-- a node has no next label exactly where all are asked for
pub none_left : (nodes : List Standing) (node : ℕ) (standing : Standing) (labels : Labels) (next : Option ℕ) (none : Bool) →
    slice_get nodes node ≡ Some standing →
    labels ≡ standing.labels → 1 ≤ length standing.labels.fecs → is_some next ≡ not none →
    IfSome next (λ label. attachments_in labels.given + length labels.fecs ≤ 1048560) →
    (next ≡ None → attachments_in labels.given + (length labels.fecs - 1) ≡ 1048560) →
    none ≡ nat_le 1048560 (slice_index (map (λ (s : Standing). labels_asked s.labels) nodes) node)
none_left nodes node standing labels next none at same long is few spent =
    by next none is few spent ∙ ap (λ l. nat_le 1048560 (labels_asked l)) same
    ∙ sym (ap (nat_le 1048560) (count_at (λ (s : Standing). labels_asked s.labels) nodes node standing at))
  where
    own : 1 ≤ length labels.fecs
    own = subst (λ (l : Labels). 1 ≤ length l.fecs) (sym same) long

    by : (o : Option ℕ) (b : Bool) → is_some o ≡ not b → IfSome o (λ label. attachments_in labels.given + length labels.fecs ≤ 1048560) →
        (o ≡ None → attachments_in labels.given + (length labels.fecs - 1) ≡ 1048560) → b ≡ nat_le 1048560 (labels_asked labels)
    by None true e few spent = sym (at_most_is 1048560 (labels_asked labels) (omega (arith, spent refl)))
    by None false e few spent = cc
    by (Some label) true e few spent = cc
    by (Some label) false e few spent = sym (not_at_most 1048560 (labels_asked labels) (omega (arith, few, own)))
