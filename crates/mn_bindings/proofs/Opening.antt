-- The list of open neighbours: at first, and as one says something; and that telling them is telling all.
use Rattle.std.proofs.Common.{ℕ, zero, suc, ◌≡◌, ◌+◌, Bool, true, false, cond, List, [], ◌∷◌, ◌++◌, map, length, slice_index_or, slice_set, replicate}
use Rattle.std.proofs.Common.{refl, arith, sym, ◌∙◌, ap, Option, None}
use Rattle.std.specs.Prelude.{is_some, not, ◌&&◌}
use Rattle.std.specs.List.{flat_map, range_with_len}
use Rattle.std.proofs.Math.Seq.{map-set_same}
use Rattle.mn_base.specs.declared.numbers.NodeNo.{NodeNo}
use Rattle.mn_bindings.specs.declared.event.LibEvent.{LibEvent}
use Rattle.mn_bindings.specs.Bindings.{Bindings, nodes, is_open, offers}
use Rattle.mn_bindings.specs.Tells.{told, tells_of, opens, mention, tell}
use Rattle.mn_bindings.specs.Kept.{open_from}

pub none_open : (A : Type 0) (node n : ℕ) → [] ≡ open_from node (map is_some (let rows : List (Option A) = replicate n None in rows))
none_open A node zero = refl
none_open A node (suc n) = none_open A (node + 1) n

pub open_still : {A : Type 0} (rows : List (Option A)) (peers : List NodeNo) (at : ℕ) (row other : Option A) →
    peers ≡ open_from 0 (map is_some rows) → is_some row ≡ is_some (slice_index_or rows at other) →
    peers ≡ open_from 0 (map is_some (slice_set rows at row))
open_still rows peers at row other e f = e ∙ ap (open_from 0) (sym (map-set_same is_some rows at row other f))

-- where those that aren't open are told nothing
pub told_open : {A B : Type 0} (f : ℕ → List B) (rows : List (Option A)) (node : ℕ) →
    ((at : ℕ) → is_some (slice_index_or rows at None) ≡ false → f (node + at) ≡ []) →
    flat_map (λ (to : NodeNo). f to.0) (open_from node (map is_some rows)) ≡ flat_map f (range_with_len node (length rows))
told_open f [] node h = refl
told_open f (row ∷ rows) node h = by (is_some row) refl (told_open f rows (node + 1) (λ at q. ap f (along at) ∙ h (suc at) q))
  where
    along : (at : ℕ) → node + 1 + at ≡ node + suc at
    along at = omega arith

    plain : node ≡ node + 0
    plain = omega arith

    by : (b : Bool) → is_some row ≡ b →
        flat_map (λ (to : NodeNo). f to.0) (open_from (node + 1) (map is_some rows)) ≡ flat_map f (range_with_len (node + 1) (length rows)) →
        flat_map (λ (to : NodeNo). f to.0) (cond b (record { 0 = node } ∷ []) [] ++ open_from (node + 1) (map is_some rows))
        ≡ f node ++ flat_map f (range_with_len (node + 1) (length rows))
    by true q more = ap (λ xs. f node ++ xs) more
    by false q more = more ∙ ap (λ xs. xs ++ flat_map f (range_with_len (node + 1) (length rows))) (sym (ap f plain ∙ h 0 q))

pub told_peers : (before : Bool) (b : Bindings) (events : List LibEvent) (fec : ℕ) (peers : List NodeNo) →
    peers ≡ open_from 0 (map is_some b.heard) → length b.heard ≡ nodes b →
    flat_map (λ (to : NodeNo). told before b events fec to.0) peers ≡ tells_of before b events fec
told_peers before b events fec peers e n =
    ap (flat_map (λ (to : NodeNo). told before b events fec to.0)) e
    ∙ told_open (told before b events fec) b.heard 0 (λ at q. ap (told before b events fec) (plain at) ∙ untold at q)
    ∙ ap (λ count. flat_map (told before b events fec) (range_with_len 0 count)) n
  where
    plain : (at : ℕ) → 0 + at ≡ at
    plain at = omega arith

    untold : (at : ℕ) → is_open b at ≡ false → told before b events fec at ≡ []
    untold at q = ap (λ o. cond o (map (λ kind. tell at kind fec) (mention (before && not (opens events at)) (offers b fec))) []) q
