-- The first that passes of a list that is gone through, and the way to it.
use Rattle.std.proofs.Common.{ℕ, ◌≡◌, ◌+◌, ◌<◌, ◌≤◌, Bool, true, false, cond, List, [], ◌∷◌, map, filter, length, get_or, drop, refl, sym, ◌∙◌, ap}
use Rattle.std.proofs.Common.{Option, Some, None}
use Rattle.std.specs.Prelude.{◌&&◌}
use Rattle.std.proofs.lemmas.List.{at_drop_more, at_drop_all}
use Rattle.mn_topo.specs.Network.{Network}
use Rattle.mn_ledger.specs.World.{Config}
use Rattle.mn_ledger.specs.Held.{HeldRoute, first_of}
use Rattle.mn_reach_laws.specs.Candidates.{is_told, chosen, chosen_by}
use Rattle.mn_reach_laws.specs.Fates.{is_reached}
use Rattle.mn_reach.specs.declared.plan.Candidate.{Candidate}
use Rattle.mn_reach.specs.Plans.{held_in}

abbrev pub first_passing : (HeldRoute → Bool) → List Candidate → Option HeldRoute
first_passing p cs = first_of (filter p (map held_in cs))

module _ (p : HeldRoute → Bool) (cs : List Candidate) (i : ℕ) where
  next : (c : Candidate) → i < length cs → get_or cs i c ≡ c →
      first_passing p (drop i cs) ≡ first_of (cond (p (held_in c)) (held_in c ∷ filter p (map held_in (drop (i + 1) cs)))
      (filter p (map held_in (drop (i + 1) cs))))
  next c h is = at_drop_more (first_passing p) cs i c h ∙ ap (λ x. first_passing p (x ∷ drop (i + 1) cs)) is

  pub found : (c : Candidate) → i < length cs → get_or cs i c ≡ c → p (held_in c) ≡ true → first_passing p (drop i cs) ≡ Some (held_in c)
  found c h is passes =
      next c h is ∙ ap (λ b. first_of (cond b (held_in c ∷ filter p (map held_in (drop (i + 1) cs))) (filter p (map held_in (drop (i + 1) cs))))) passes

  pub passed : (c : Candidate) → i < length cs → get_or cs i c ≡ c → p (held_in c) ≡ false → first_passing p (drop i cs) ≡ first_passing p (drop (i + 1) cs)
  passed c h is fails =
      next c h is ∙ ap (λ b. first_of (cond b (held_in c ∷ filter p (map held_in (drop (i + 1) cs))) (filter p (map held_in (drop (i + 1) cs))))) fails

  pub none : length cs ≤ i → first_passing p (drop i cs) ≡ None
  none h = at_drop_all (first_passing p) cs i h

-- one filter and then another
pub both : (p q : HeldRoute → Bool) (rs : List HeldRoute) → filter (λ r. p r && q r) rs ≡ filter q (filter p rs)
both p q [] = refl
both p q (r ∷ rs) = by (p r) ∙ ap (λ ys. cond (p r) (cond (q r) (r ∷ ys) ys) ys) (both p q rs) ∙ back (p r)
  where
    by : (b : Bool) → cond (b && q r) (r ∷ filter (λ x. p x && q x) rs) (filter (λ x. p x && q x) rs)
        ≡ cond b (cond (q r) (r ∷ filter (λ x. p x && q x) rs) (filter (λ x. p x && q x) rs)) (filter (λ x. p x && q x) rs)
    by true = refl
    by false = refl

    back : (b : Bool) → cond b (cond (q r) (r ∷ filter q (filter p rs)) (filter q (filter p rs))) (filter q (filter p rs)) ≡ filter q
        (cond b (r ∷ filter p rs) (filter p rs))
    back true = refl
    back false = refl

-- the one that is chosen
module _ (t : Network) (config : Config) (home : ℕ) (rs : List HeldRoute) where
  pub by_first : t.resolve ≡ false → first_of (filter (is_told config home) rs) ≡ chosen t config home rs
  by_first off =
      sym (ap (λ b. chosen_by b (first_of (filter (is_reached t config home) (filter (is_told config home) rs)))
      (first_of (filter (is_told config home) rs))) off)

  module _ (on : t.resolve ≡ true) where
    by : (o : Option HeldRoute) → first_of (filter (is_reached t config home) (filter (is_told config home) rs)) ≡ o →
        chosen_by true o (first_of (filter (is_told config home) rs)) ≡ chosen t config home rs
    by o is =
        sym (ap (λ b. chosen_by b (first_of (filter (is_reached t config home) (filter (is_told config home) rs)))
        (first_of (filter (is_told config home) rs))) on
        ∙ ap (λ r. chosen_by true r (first_of (filter (is_told config home) rs))) is)

    pub by_reached : (r : HeldRoute) → first_of (filter (is_reached t config home) (filter (is_told config home) rs)) ≡ Some r →
        Some r ≡ chosen t config home rs
    by_reached r is = by (Some r) is

    pub by_told : first_of (filter (is_reached t config home) (filter (is_told config home) rs)) ≡ None →
        first_of (filter (is_told config home) rs) ≡ chosen t config home rs
    by_told is = by None is
