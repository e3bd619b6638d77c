-- What is kept at the start has its shape.
use Rattle.std.proofs.Common.{ℕ, ◌≡◌, ◌<◌, Bool, true, false, List, [], ◌∷◌, length, replicate, refl, sym, subst, ◌∙◌, ap, None}
use Rattle.std.specs.Prelude.{◌==◌, ◌||◌, nat_lt, if◌then◌else◌, slice_index_or}
use Rattle.std.specs.List.{AllByRecursion}
use Rattle.std.proofs.lemmas.List.{length-replicate, get_or-replicate}
use Rattle.mn_base.proofs.Bools.{same_test}
use Rattle.mn_base.specs.declared.numbers.NodeNo.{NodeNo}
use Rattle.mn_topo.specs.Network.{Network}
use Rattle.mn_ledger.specs.Places.{loopback, sites_at}
use Rattle.mn_edges.specs.Changes.{working}
use Rattle.mn_routing_laws.proofs.Placed.{length_range}
use Rattle.mn_reflect_ledger_laws.specs.Picks.{is_reflector, placed_by, by_address}
use Rattle.mn_reflect_ledger_laws.specs.Quiet.{AreReflectors}
use Rattle.mn_reflect_ledger_laws.specs.World.{start}
use Rattle.mn_reflect_world_laws.specs.Labels.{first_labels}
use Rattle.mn_reflect_world_laws.specs.Starts.{StartsAs, nothing_decided}
use Rattle.mn_reflect_world_laws.specs.Now.{ReflectNow, edge_or_none}
use Rattle.mn_reflect_telling.specs.Mentions.{numbers_of, AreNodes}
use Rattle.mn_reflect.specs.Shape.{IsShaped}
use Rattle.std.specs.Prelude.{option_map}

-- 1. Reflectors are nodes

or_so : (a b : Bool) → b ≡ true → (a || b) ≡ true
or_so true b h = refl
or_so false b h = h

all_of : (n : ℕ) (rs : List ℕ) → ((node : ℕ) → is_reflector rs node ≡ true → node < n) → AllByRecursion (λ r. r < n) rs
all_of n [] h = tt
all_of n (r ∷ rs) h = (h r (ap (λ b. b || is_reflector rs r) (same_test r)), all_of n rs (λ node e. h node (or_so (r == node) (is_reflector rs node) e)))

placed_below : (t : Network) (n node : ℕ) (ns : List ℕ) → node < n → AllByRecursion (λ r. r < n) ns → AllByRecursion (λ r. r < n) (placed_by t node ns)
placed_below t n node [] below h = (below, h)
placed_below t n node (other ∷ others) below h =
    by (nat_lt (loopback t node) (loopback t other)) (placed_below t n node others below h.1)
  where
    by : (b : Bool) → AllByRecursion (λ r. r < n) (placed_by t node others) →
        AllByRecursion (λ r. r < n) (if b then node ∷ other ∷ others else other ∷ placed_by t node others)
    by true more = (below, h)
    by false more = (h.0, more)

sorted_below : (t : Network) (n : ℕ) (rs : List ℕ) → AllByRecursion (λ r. r < n) rs → AllByRecursion (λ r. r < n) (by_address t rs)
sorted_below t n [] h = tt
sorted_below t n (r ∷ rs) h = placed_below t n r (by_address t rs) h.0 (sorted_below t n rs h.1)

as_nodes : (t : Network) (rs : List NodeNo) → AllByRecursion (λ r. r < length t.loopbacks) (numbers_of rs) → AreNodes t rs
as_nodes t [] h = tt
as_nodes t (r ∷ rs) h = (h.0, as_nodes t rs h.1)

pub are_nodes : (t : Network) (rs : List NodeNo) → AreReflectors t (numbers_of rs) → AreNodes t rs
are_nodes t rs are = as_nodes t rs (all_of (length t.loopbacks) (numbers_of rs) are.nodes)

-- 2. The tables

square : {A : Type 0} (x : A) (n : ℕ) (rows : List (List A)) → rows ≡ replicate n (replicate n x) →
    (length rows ≡ n) × ((node : ℕ) → node < n → length (slice_index_or rows node []) ≡ n)
square x n rows is = (
  ap length is ∙ length-replicate n (replicate n x),
  λ node below. ap (λ rs. length (slice_index_or rs node [])) is ∙ ap length (get_or-replicate n node (replicate n x) [] below) ∙ length-replicate n x,
)

pub starts_shaped : (rs : List ℕ) (now : ReflectNow) → AreReflectors now.topology rs → StartsAs now.topology rs now → IsShaped now
starts_shaped rs now are h =
    let t = now.topology in
    let ends = square None (length t.loopbacks) now.sessions h.sessions in
    let rows = square [] (length t.loopbacks) now.heard h.heard in
    record {
      edges = ap length h.edges
          ∙ length_range (λ node. option_map working (edge_or_none t (first_labels t) (start t) nothing_decided node)) 0 (length t.loopbacks);
      sessions = ends.0;
      ends = ends.1;
      heard = rows.0;
      peers = rows.1;
      attachments = ap length h.attachments ∙ length_range (λ node. length (sites_at t node)) 0 (length t.loopbacks);
      nodes = h.nodes;
      reflectors = subst (λ ns. AllByRecursion (λ r. r < length t.loopbacks) ns) (sym h.reflectors_are)
          (sorted_below t (length t.loopbacks) rs (all_of (length t.loopbacks) rs are.nodes));
    }
