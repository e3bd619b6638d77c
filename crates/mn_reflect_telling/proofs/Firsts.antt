-- The first reflector that announced a route.
use Rattle.std.proofs.Common.{ℕ, suc, ◌≡◌, ◌+◌, ◌<◌, false, List, [], ◌∷◌, length, drop, refl, arith, sym, ap, ◌∙◌, Option, None}
use Rattle.std.specs.List.{list_any}
use Rattle.std.specs.Prelude.{◌==◌, ◌||◌, not, filter, slice_index_or, cond}
use Rattle.std.proofs.Math.Seq.{drop-cons}
use Rattle.mn_base.specs.declared.numbers.NodeNo.{NodeNo}
use Rattle.mn_base.proofs.Bools.{test_same}
use Rattle.mn_offers.specs.Heard.{Heard}
use Rattle.mn_reflect_ledger_laws.specs.Words.{Key}
use Rattle.mn_reflect_ledger_laws.specs.Picks.{or_else}
use Rattle.mn_reflect_world_laws.specs.Choice.{Row, kept_of, first_kept, reflected_to}
use Rattle.mn_reflect_telling.specs.Mentions.{numbers_of}
use Rattle.mn_reflect_telling.proofs.Posting.{drop_all}

module _ (rs : List NodeNo) (row : Row) (node : ℕ) (key : Key) where
  -- of those from this place on
  abbrev pub from : ℕ → Option Heard
  from i = reflected_to (numbers_of (drop i rs)) row node key

  one_more : (i : ℕ) (r : NodeNo) → i < length rs → r ≡ slice_index_or rs i r →
      from i ≡ first_kept row key (cond (not (r.0 == node)) (r.0 ∷ filter (λ other. not (other == node)) (numbers_of (drop (i + 1) rs)))
      (filter (λ other. not (other == node)) (numbers_of (drop (i + 1) rs))))
  one_more i r below is =
      let next : suc i ≡ i + 1 = omega arith in
      ap (λ xs. reflected_to (numbers_of xs) row node key) (drop-cons rs i r below ∙ ap (λ k. slice_index_or rs i r ∷ drop k rs) next)
      ∙ ap (λ (x : NodeNo). first_kept row key (cond (not (x.0 == node)) (x.0 ∷ filter (λ other. not (other == node)) (numbers_of (drop (i + 1) rs)))
      (filter (λ other. not (other == node)) (numbers_of (drop (i + 1) rs))))) (sym is)

  -- the node itself is passed over
  pub passed_over : (i : ℕ) (r : NodeNo) → i < length rs → r ≡ slice_index_or rs i r → r.0 ≡ node → from i ≡ from (i + 1)
  passed_over i r below is same =
      one_more i r below is
      ∙ ap (λ b. first_kept row key (cond (not b) (r.0 ∷ filter (λ other. not (other == node)) (numbers_of (drop (i + 1) rs)))
      (filter (λ other. not (other == node)) (numbers_of (drop (i + 1) rs))))) (test_same r.0 node same)

  -- another is asked
  pub asked : (i : ℕ) (r : NodeNo) → i < length rs → r ≡ slice_index_or rs i r → (r.0 == node) ≡ false →
      from i ≡ or_else (kept_of row key r.0) (from (i + 1))
  asked i r below is other =
      one_more i r below is
      ∙ ap (λ b. first_kept row key (cond (not b) (r.0 ∷ filter (λ other. not (other == node)) (numbers_of (drop (i + 1) rs)))
      (filter (λ other. not (other == node)) (numbers_of (drop (i + 1) rs))))) other

  pub none_left : (i : ℕ) → i ≡ length rs → from i ≡ None
  none_left i end = ap (λ xs. reflected_to (numbers_of xs) row node key) (drop_all rs i end)

pub listed : (node : ℕ) (nodes : List NodeNo) → list_any (λ (other : NodeNo). other.0 == node) nodes ≡ list_any (λ other. other == node) (numbers_of nodes)
listed node [] = refl
listed node (other ∷ nodes) = ap (λ b. (other.0 == node) || b) (listed node nodes)
