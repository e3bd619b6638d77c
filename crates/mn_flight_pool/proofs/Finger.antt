-- Places on a channel: which nodes are next to each other, and what a put and a take leave of them.
use Rattle.std.proofs.Common.{◌≡◌, ◌<◌, ◌+◌, ℕ, zero, suc, true, false, cond, Bool, List, [], ◌∷◌, ◌++◌, length, Option, Some, None, MatchOption, inl, inr}
use Rattle.std.proofs.Common.{refl}
use Rattle.std.proofs.Common.{sym, ap, ◌∙◌, subst, arith, append_assoc, append-nil, length-append}
use Rattle.std.specs.Prelude.{⊤, slice_get, filter}
use Rattle.std.specs.List.{IsDistinct}
use Rattle.std.proofs.lemmas.Bool.Decides.{eqb_tells}
use Rattle.std.proofs.lemmas.Option.{same_Some}
use Rattle.mn_flight_pool.specs.Cells.{same_place}
use Rattle.mn_flight_pool.specs.Rings.{AreNeighbours, IsRing, next_of, prev_of}
use Rattle.mn_flight_pool.specs.Pool.{steps_of}
use Rattle.mn_flight_pool.specs.declared.node.Pair.{Pair}
use Rattle.mn_flight_pool.specs.Nodes.{Node}
use Rattle.mn_flight_pool.specs.declared.pool.Finger.{Finger}
use Rattle.mn_flight_pool.proofs.Changed.{same_place_refl}
use Rattle.mn_flight_pool.proofs.Neighbours.{neighbour, at_places}
use Rattle.mn_flight_pool.proofs.Entered.{free_filter}
use Rattle.mn_flight_pool.proofs.Items.{at_cut}

-- 1. Places in a list
pub finger_kept : (o : Option Finger) (P Q : Finger → Type 0) → ((f : Finger) → P f → Q f) → MatchOption o ⊤ P → MatchOption o ⊤ Q
finger_kept None P Q g h = tt
finger_kept (Some f) P Q g h = g f h

pub get_more : (xs ys : List ℕ) (k q : ℕ) → slice_get xs k ≡ Some q → slice_get (xs ++ ys) k ≡ Some q
get_more [] ys k q e = cc
get_more (x ∷ xs) ys zero q e = e
get_more (x ∷ xs) ys (suc k) q e = get_more xs ys k q e

before_cut : (us ys zs : List ℕ) (k : ℕ) → k < length us → slice_get (us ++ ys) k ≡ slice_get (us ++ zs) k
before_cut [] ys zs k h = absurd (omega (arith, h))
before_cut (u ∷ us) ys zs zero h = refl
before_cut (u ∷ us) ys zs (suc k) h = before_cut us ys zs k (omega (arith, h))

pub some_there : (xs : List ℕ) (k : ℕ) → k < length xs → (q : ℕ) × (slice_get xs k ≡ Some q)
some_there [] k h = absurd (omega (arith, h))
some_there (x ∷ xs) zero h = (x, refl)
some_there (x ∷ xs) (suc k) h = some_there xs k (omega (arith, h))

distinct_filter : (test : ℕ → Bool) (xs : List ℕ) → IsDistinct same_place xs → IsDistinct same_place (filter test xs)
unfolding IsDistinct
distinct_filter test [] d = d
distinct_filter test (x ∷ xs) d = by (test x) (distinct_filter test xs d.1)
  where
    by : (b : Bool) → IsDistinct same_place (filter test xs) → IsDistinct same_place (cond b (x ∷ filter test xs) (filter test xs))
    by true rest = (free_filter x test xs d.0, rest)
    by false rest = rest

-- each stands at one place
one_place : (xs : List ℕ) (k n p : ℕ) → IsDistinct same_place xs → slice_get xs k ≡ Some p → slice_get xs n ≡ Some p → k ≡ n
one_place xs k n p d e f = elim (eqb_tells k n) [
  | inl same ↦ same.1
  | inr other ↦ absurd (clash (same_place p p) (same_place_refl p)
      (at_places xs [] k n p p (subst (λ l. IsDistinct same_place l) (sym (append-nil xs)) d) e f other.1))
]
  where
    clash : (b : Bool) → b ≡ true → b ≡ false → ⊥
    clash true s t = cc
    clash false s t = cc

-- what stands before one that is taken out stays at its place
pub kept_before : (us vs : List ℕ) (p n k q : ℕ) → IsDistinct same_place (us ++ p ∷ vs) → slice_get (us ++ p ∷ vs) n ≡ Some p →
    slice_get (us ++ p ∷ vs) k ≡ Some q → k < n → slice_get (us ++ vs) k ≡ Some q
kept_before us vs p n k q d e f h =
    let at : n ≡ length us = one_place (us ++ p ∷ vs) n (length us) p d e (at_cut us p vs) in
    before_cut us vs (p ∷ vs) k (omega (arith, h, at)) ∙ f

pub distinct_nodes : (test : ℕ → Bool) (head : ℕ) (order : List ℕ) → IsDistinct same_place (head ∷ order) → IsDistinct same_place (filter test order)
unfolding IsDistinct
distinct_nodes test head order d = distinct_filter test order d.1

two_cut : (ps : List ℕ) (k u v : ℕ) → slice_get ps k ≡ Some u → slice_get ps (suc k) ≡ Some v → (xs : List ℕ) × (ys : List ℕ) × (ps ≡ xs ++ u ∷ v ∷ ys)
two_cut [] k u v e f = cc
two_cut (a ∷ []) zero u v e f = cc
two_cut (a ∷ b ∷ ps) zero u v e f = ([], ps, λ i. same_Some a u e i ∷ same_Some b v f i ∷ ps)
two_cut (a ∷ ps) (suc k) u v e f = let on = two_cut ps k u v e f in (a ∷ on.0, on.1, ap (λ l. a ∷ l) on.2)

-- 2. Along a ring
module _ {T : Type 0} (pair : Pair) (cells : List (Node T)) (s : ℕ) (ps : List ℕ) (ring : IsRing pair cells s ps) where
  beside : (k u v : ℕ) → slice_get ps k ≡ Some u → slice_get ps (suc k) ≡ Some v → (next_of pair cells u ≡ v) × (prev_of pair cells v ≡ u)
  beside k u v e f =
      let cut = two_cut ps k u v e f in let xs = cut.0 in let ys = cut.1 in
      let lists : ps ++ s ∷ [] ≡ (xs ++ u ∷ []) ++ v ∷ (ys ++ s ∷ []) =
      ap (λ l. l ++ s ∷ []) cut.2 ∙ append_assoc xs (u ∷ v ∷ ys) (s ∷ []) ∙ sym (append_assoc xs (u ∷ []) (v ∷ (ys ++ s ∷ []))) in
      let round : AreNeighbours (next_of pair cells) (prev_of pair cells) (s ∷ (xs ++ u ∷ v ∷ ys)) ((xs ++ u ∷ []) ++ v ∷ (ys ++ s ∷ [])) =
      subst (λ l. AreNeighbours (next_of pair cells) (prev_of pair cells) (s ∷ l) ((xs ++ u ∷ []) ++ v ∷ (ys ++ s ∷ []))) cut.2
      (subst (λ l. AreNeighbours (next_of pair cells) (prev_of pair cells) (s ∷ ps) l) lists ring.round) in
      let long : length (s ∷ xs) ≡ length (xs ++ u ∷ []) = omega (arith, length-append xs (u ∷ [])) in
      neighbour (next_of pair cells) (prev_of pair cells) (s ∷ xs) u (v ∷ ys) (xs ++ u ∷ []) v (ys ++ s ∷ []) long round

  pub prev_placed : (k v : ℕ) → slice_get ps (suc k) ≡ Some v → k < length ps → slice_get ps k ≡ Some (prev_of pair cells v)
  prev_placed k v f h = let u = some_there ps k h in u.1 ∙ ap (λ q. Some q) (sym (beside k u.0 v u.1 f).1)

  pub forth_from : (i k q : ℕ) → slice_get ps i ≡ Some q → i + k < length ps → slice_get ps (i + k) ≡ Some (steps_of (next_of pair cells) q k)
  forth_from i zero q e h = let same : i + zero ≡ i = omega arith in ap (slice_get ps) same ∙ e
  forth_from i (suc k) q e h =
      let rest = forth_from i k q e (omega (arith, h)) in
      let same : i + suc k ≡ suc (i + k) = omega arith in
      let v = some_there ps (suc (i + k)) (omega (arith, h)) in
      ap (slice_get ps) same ∙ v.1 ∙ ap (λ p. Some p) (sym (beside (i + k) (steps_of (next_of pair cells) q k) v.0 rest v.1).0)

  pub back_from : (k i q : ℕ) → slice_get ps (i + k) ≡ Some q → i + k < length ps → slice_get ps i ≡ Some (steps_of (prev_of pair cells) q k)
  back_from zero i q e h = let same : i ≡ i + zero = omega arith in ap (slice_get ps) same ∙ e
  back_from (suc k) i q e h =
      let same : suc i + k ≡ i + suc k = omega arith in
      let rest = back_from k (suc i) q (ap (slice_get ps) same ∙ e) (omega (arith, h)) in
      prev_placed i (steps_of (prev_of pair cells) q k) rest (omega (arith, h))
