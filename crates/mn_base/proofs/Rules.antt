-- The first rule that is broken, in the words of the list.
use Rattle.std.proofs.Common.{◌≡◌, Bool, true, false, List, [], ◌∷◌, ◌++◌, map, refl, sym, ◌∙◌, ap}
use Rattle.std.specs.Prelude.{Option, Some, None, if◌then◌else◌}
use Rattle.std.specs.List.{AllByRecursion}
use Rattle.mn_base.specs.Rules.{when, first_broken, first_refusal, IsFirstBroken}

pub some_is : {R : Type 0} (a b : R) → Some a ≡ Some b → a ≡ b
some_is a b h = cc

pub none_is : {R : Type 0} (a : R) → None ≡ Some a → ⊥
none_is a h = cc

-- the row is broken, or none of it is
module _ {R : Type 0} where
  row_broken : (row : Bool × R) (rows : List (Bool × R)) (rule : R) (b : Bool) → row.0 ≡ b → (if b then Some row.1 else first_refusal rows) ≡ Some rule
      → (first_refusal rows ≡ Some rule → IsFirstBroken rows rule) → IsFirstBroken (row ∷ rows) rule
  row_broken row rows rule true e h more =
      let pair : row ≡ (true, rule) = pairs row.0 row.1 e (some_is row.1 rule h) in
      record { earlier = []; later = rows; split = ap (λ first. first ∷ rows) pair; kept = tt }
    where
      pairs : (b : Bool) (r : R) → b ≡ true → r ≡ rule → ◌≡◌ {A = Bool × R} (b, r) (true, rule)
      pairs b r p q = cc
  row_broken row rows rule false e h more =
      let found : IsFirstBroken rows rule = more h in
      record { earlier = row ∷ found.earlier; later = found.later; split = ap (λ others. row ∷ others) found.split; kept = (e, found.kept) }

  pub broken_first : (rows : List (Bool × R)) (rule : R) → first_refusal rows ≡ Some rule → IsFirstBroken rows rule
  broken_first [] rule h = absurd (none_is rule h)
  broken_first (row ∷ rows) rule h = row_broken row rows rule row.0 refl h (λ g. broken_first rows rule g)

  passed : (earlier later : List (Bool × R)) (rule : R) → AllByRecursion (λ row. row.0 ≡ false) earlier →
      first_refusal (earlier ++ (true, rule) ∷ later) ≡ Some rule
  passed [] later rule h = refl
  passed (row ∷ earlier) later rule h = ap (λ b. if b then Some row.1 else first_refusal (earlier ++ (true, rule) ∷ later)) h.0 ∙ passed earlier later rule h.1

  pub first_is : (rows : List (Bool × R)) (rule : R) → IsFirstBroken rows rule → first_refusal rows ≡ Some rule
  first_is rows rule h = ap first_refusal h.split ∙ passed h.earlier h.later rule h.kept

  row_kept : (row : Bool × R) (rows : List (Bool × R)) (b : Bool) → row.0 ≡ b → (if b then Some row.1 else first_refusal rows) ≡ None
      → (first_refusal rows ≡ None → AllByRecursion (λ r. r.0 ≡ false) rows) → AllByRecursion (λ r. r.0 ≡ false) (row ∷ rows)
  row_kept row rows true e h more = absurd (none_is row.1 (sym h))
  row_kept row rows false e h more = (e, more h)

  pub all_kept : (rows : List (Bool × R)) → first_refusal rows ≡ None → AllByRecursion (λ row. row.0 ≡ false) rows
  all_kept [] h = tt
  all_kept (row ∷ rows) h = row_kept row rows row.0 refl h (λ g. all_kept rows g)

  pub none_broken : (rows : List (Bool × R)) → AllByRecursion (λ row. row.0 ≡ false) rows → first_refusal rows ≡ None
  none_broken [] h = refl
  none_broken (row ∷ rows) h = ap (λ b. if b then Some row.1 else first_refusal rows) h.0 ∙ none_broken rows h.1

  -- the two ways of writing rules mean the same
  head_same : (rule : R) (rules : List (Option R)) (rest : Option R) (b : Bool) → first_broken rules ≡ rest →
      first_broken (when b rule ∷ rules) ≡ (if b then Some rule else rest)
  head_same rule rules rest true h = refl
  head_same rule rules rest false h = h

  pub rules_same : (rows : List (Bool × R)) → first_broken (map (λ row. when row.0 row.1) rows) ≡ first_refusal rows
  rules_same [] = refl
  rules_same (row ∷ rows) = head_same row.1 (map (λ r. when r.0 r.1) rows) (first_refusal rows) row.0 (rules_same rows)
