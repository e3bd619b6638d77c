-- The edge of a number, and what a change of it makes of the whole.
use Rattle.std.proofs.Common.{ℕ, zero, suc, ◌≡◌, ◌+◌, ◌<◌, true, List, [], ◌∷◌, map, length, refl, arith, sym, ◌∙◌, ap}
use Rattle.std.proofs.Common.{Option, Some, None}
use Rattle.std.specs.Prelude.{slice_get, slice_set, slice_index_or, option_map, if◌then◌else◌}
use Rattle.std.specs.List.{range_with_len}
use Rattle.std.proofs.lemmas.List.{length-map}
use Rattle.mn_wiring.specs.Wiring.{nodes_of}
use Rattle.mn_topo.specs.Network.{Network, wiring_of}
use Rattle.mn_topo.specs.VrfTable.{is_edge}
use Rattle.mn_ledger.specs.World.{World}
use Rattle.mn_bgp_spelling_laws.specs.Spelling.{Labels}
use Rattle.mn_pe.specs.Edge.{Edge}
use Rattle.mn_pe.specs.Pe.{PeNow}
use Rattle.mn_routing_laws.specs.Standing.{edge_in}
use Rattle.mn_routing_laws.specs.Whole.{edge_or_none, session_or_none}
use Rattle.mn_routing_laws.specs.Routed.{Routed, StandsFor, working}
use Rattle.mn_routing_laws.specs.Sending.{ends_of}
use Rattle.mn_routing_laws.specs.Doing.{HasEdge, edge_at, edge_or_blank}
use Rattle.mn_routing_laws.proofs.Tables.{map_numbers_at}

pub get_range : {B : Type 0} (f : ℕ → B) (from size at : ℕ) → at < size → slice_get (map f (range_with_len from size)) at ≡ Some (f (from + at))
get_range f from zero at h = absurd (let none : at < 0 → ⊥ = (λ p. omega (arith, p)) in none h)
get_range f from (suc size) zero h = ap (λ n. Some (f n)) (start from)
  where
    start : (n : ℕ) → n ≡ n + 0
    start n = omega arith
get_range f from (suc size) (suc at) h = get_range f (from + 1) size at (omega (arith, h)) ∙ ap (λ n. Some (f n)) (next from at)
  where
    next : (n k : ℕ) → n + 1 + k ≡ n + suc k
    next n k = omega arith

pub get_mapped : {A B : Type 0} (f : A → B) (xs : List A) (k : ℕ) → slice_get (map f xs) k ≡ option_map f (slice_get xs k)
get_mapped f [] k = refl
get_mapped f (x ∷ xs) zero = refl
get_mapped f (x ∷ xs) (suc k) = get_mapped f xs k

pub index_of : {A : Type 0} (xs : List A) (k : ℕ) (x d : A) → slice_get xs k ≡ Some x → slice_index_or xs k d ≡ x
index_of [] k x d h = absurd (let none : None ≡ Some x → ⊥ = (λ e. cc) in none h)
index_of (y ∷ ys) zero x d h = let same : Some y ≡ Some x = h in cc
index_of (y ∷ ys) (suc k) x d h = index_of ys k x d h

pub length_range : {B : Type 0} (f : ℕ → B) (from size : ℕ) → length (map f (range_with_len from size)) ≡ size
length_range f from zero = refl
length_range f from (suc size) = ap suc (length_range f (from + 1) size)

-- a change of one edge
pub set_edge : (es : List (Option Edge)) (e : ℕ) (f : Edge → Edge) (was : Edge) → slice_get (map (option_map working) es) e ≡ Some (Some (working was))
    → slice_set (map (option_map working) es) e (Some (working (f was))) ≡ map (option_map working) (slice_set es e (option_map f (slice_index_or es e None)))
set_edge [] e f was h = absurd (let none : None ≡ Some (Some (working was)) → ⊥ = (λ q. cc) in none h)
set_edge (None ∷ es) zero f was h = absurd (let none : Some None ≡ Some (Some (working was)) → ⊥ = (λ q. cc) in none h)
set_edge (Some x ∷ es) zero f was h = ap (λ y. Some (working (f y)) ∷ map (option_map working) es) (sym (same h))
  where
    same : Some (Some (working x)) ≡ Some (Some (working was)) → x ≡ was
    same q = ap (λ o. edge_or_blank (flat o)) q
      where
        flat : Option (Option PeNow) → Option PeNow
        flat None = None
        flat (Some o) = o
set_edge (y ∷ es) (suc e) f was h = ap (λ ys. option_map working y ∷ ys) (set_edge es e f was h)

module _ (t : Network) (l : Labels) (w : World) (routed : Routed) (h : StandsFor t l w routed) where
  pub edge_there : (e : ℕ) → e < length t.loopbacks → is_edge t.vrfs e ≡ true →
      slice_get routed.edges e ≡ Some (Some (working (edge_in t l w.config w.peerings e)))
  edge_there e below is =
      ap (λ es. slice_get es e) h.edges
      ∙ get_mapped (option_map working) (map (edge_or_none t l w.config w.peerings) (nodes_of (wiring_of t))) e
      ∙ ap (option_map (option_map working)) (get_range (edge_or_none t l w.config w.peerings) 0 (length t.loopbacks) e below)
      ∙ ap (λ n. Some (option_map working (edge_or_none t l w.config w.peerings n))) (nought e)
      ∙ ap (λ b. Some (option_map working (if b then Some (edge_in t l w.config w.peerings e) else None))) is
    where
      nought : (n : ℕ) → 0 + n ≡ n
      nought n = omega arith

  pub edge_is : (e : ℕ) → e < length t.loopbacks → is_edge t.vrfs e ≡ true → edge_at routed e ≡ edge_in t l w.config w.peerings e
  edge_is e below is = ap edge_or_blank (index_of routed.edges e (Some (working (edge_in t l w.config w.peerings e))) None (edge_there e below is))

  pub ends_are : (e : ℕ) → e < length t.loopbacks → ends_of routed e ≡ map (session_or_none t w.config w.peerings e) (nodes_of (wiring_of t))
  ends_are e below = ap (λ rows. slice_index_or rows e []) h.sessions
      ∙ map_numbers_at (λ node. map (session_or_none t w.config w.peerings node) (nodes_of (wiring_of t))) (length t.loopbacks) e [] below

  pub has_edge : (e : ℕ) → e < length t.loopbacks → is_edge t.vrfs e ≡ true → HasEdge t routed e
  has_edge e below is = record {
    there = edge_there e below is ∙ ap (λ x. Some (Some (working x))) (sym (edge_is e below is));
    nodes = ap length h.edges ∙ length-map (map (edge_or_none t l w.config w.peerings) (nodes_of (wiring_of t))) (option_map working)
        ∙ length_range (edge_or_none t l w.config w.peerings) 0 (length t.loopbacks);
    rows = ap length h.sessions ∙ length_range (λ node. map (session_or_none t w.config w.peerings node) (nodes_of (wiring_of t))) 0 (length t.loopbacks);
    ends = ap length (ends_are e below) ∙ length_range (session_or_none t w.config w.peerings e) 0 (length t.loopbacks);
  }
