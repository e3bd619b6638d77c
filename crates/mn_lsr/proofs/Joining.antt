-- The links that join a node with each neighbour, as those are noted one after the other.
use Rattle.std.proofs.Common.{ℕ, zero, suc, ◌≡◌, ◌≢◌, ◌+◌, ◌<◌, ◌≤◌, inl, inr, Bool, true, false, cond, List, [], ◌∷◌, ◌++◌, length, filter, refl, arith, sym}
use Rattle.std.proofs.Common.{◌∙◌, ap, subst}
use Rattle.std.proofs.Common.{Option, Some, None, append-nil, replicate}
use Rattle.std.specs.Prelude.{◌==◌, ◌&&◌, ◌-◌, if◌then◌else◌, slice_index_or, slice_set, option_map}
use Rattle.std.specs.Option.{option_to_list}
use Rattle.std.specs.List.{range_with_len}
use Rattle.std.proofs.lemmas.Bool.Decides.{eqb_tells}
use Rattle.std.proofs.lemmas.List.{get_or-set_same, get_or-set_other}
use Rattle.std.proofs.Math.ListN.{length-set}
use Rattle.mn_base.specs.declared.numbers.LinkNo.{LinkNo}
use Rattle.mn_wiring.specs.Wiring.{Wiring, link, is_end, across, joining, JoinsNodes, JoinsOnce}
use Rattle.mn_lsr.specs.Telling.{as_number, AreLinks}

-- those of the links from this one on that join the node with the neighbour
abbrev pub links_from : Wiring → ℕ → ℕ → ℕ → List ℕ
links_from w me to at = filter (λ l. across w l me == to) (filter (λ l. is_end w l me) (range_with_len at (length w.ends - at)))

-- the link that is noted for a neighbour
abbrev pub noted : List (Option LinkNo) → ℕ → List ℕ
noted links to = option_to_list (option_map as_number (slice_index_or links to None))

-- the links before this one are noted
pub record AreNoted (w : Wiring) (me at : ℕ) (links : List (Option LinkNo)) : Type 0 where
  pub size : length links ≡ length w.loopbacks
  pub there : (to : ℕ) (link : LinkNo) → slice_index_or links to None ≡ Some link → link.0 < length w.ends
  pub join : (to : ℕ) → joining w me to ≡ noted links to ++ links_from w me to at

and_true : (x y : Bool) → (x && y) ≡ true → (x ≡ true) × (y ≡ true)
and_true true y e = (refl, e)
and_true false y e = cc

-- an element that passes both tests stays, and one that fails either goes
kept : (p q : ℕ → Bool) (at : ℕ) (xs : List ℕ) → (q at && p at) ≡ true → filter p (filter q (at ∷ xs)) ≡ at ∷ filter p (filter q xs)
kept p q at xs e =
    let both : (q at ≡ true) × (p at ≡ true) = and_true (q at) (p at) e in
    ap (λ b. filter p (cond b (at ∷ filter q xs) (filter q xs))) both.0 ∙ ap (λ b. cond b (at ∷ filter p (filter q xs)) (filter p (filter q xs))) both.1

dropped : (p q : ℕ → Bool) (at : ℕ) (xs : List ℕ) → (q at && p at) ≡ false → filter p (filter q (at ∷ xs)) ≡ filter p (filter q xs)
dropped p q at xs e = by (q at) (p at) refl refl e
  where
    by : (x y : Bool) → q at ≡ x → p at ≡ y → (x && y) ≡ false → filter p (filter q (at ∷ xs)) ≡ filter p (filter q xs)
    by false y f g h = ap (λ b. filter p (cond b (at ∷ filter q xs) (filter q xs))) f
    by true false f g h =
        ap (λ b. filter p (cond b (at ∷ filter q xs) (filter q xs))) f ∙ ap (λ b. cond b (at ∷ filter p (filter q xs)) (filter p (filter q xs))) g
    by true true f g h = cc

module _ (w : Wiring) (me to : ℕ) (at : ℕ) (below : at < length w.ends) where
  rest : range_with_len at (length w.ends - at) ≡ at ∷ range_with_len (at + 1) (length w.ends - (at + 1))
  rest = ap (range_with_len at) (one_less (length w.ends) at below)
    where
      one_less : (n at : ℕ) → at < n → n - at ≡ suc (n - (at + 1))
      one_less n at h = omega (arith, h)

  here : (is_end w at me && (across w at me == to)) ≡ true → links_from w me to at ≡ at ∷ links_from w me to (at + 1)
  here e =
      ap (λ ls. filter (λ l. across w l me == to) (filter (λ l. is_end w l me) ls)) rest
      ∙ kept (λ l. across w l me == to) (λ l. is_end w l me) at (range_with_len (at + 1) (length w.ends - (at + 1))) e

  elsewhere : (is_end w at me && (across w at me == to)) ≡ false → links_from w me to at ≡ links_from w me to (at + 1)
  elsewhere e =
      ap (λ ls. filter (λ l. across w l me == to) (filter (λ l. is_end w l me) ls)) rest
      ∙ dropped (λ l. across w l me == to) (λ l. is_end w l me) at (range_with_len (at + 1) (length w.ends - (at + 1))) e

-- at first none is noted
pub none-noted : (w : Wiring) (me : ℕ) (links : List (Option LinkNo)) → links ≡ replicate (length w.loopbacks) None → AreNoted w me 0 links
none-noted w me links e = subst (AreNoted w me 0) (sym e) (record {
  size = so_many (length w.loopbacks);
  there = λ to link f. absurd (clash link (sym (none_there (length w.loopbacks) to) ∙ f));
  join =
      λ to. ap (λ n. filter (λ l. across w l me == to) (filter (λ l. is_end w l me) (range_with_len 0 n))) (all (length w.ends))
      ∙ ap (λ o. option_to_list (option_map as_number o) ++ links_from w me to 0) (sym (none_there (length w.loopbacks) to));
})
  where
    all : (n : ℕ) → n ≡ n - 0
    all n = omega arith

    so_many : (n : ℕ) → length (let o : List (Option LinkNo) = replicate n None in o) ≡ n
    so_many zero = refl
    so_many (suc n) = ap suc (so_many n)

    none_there : (n k : ℕ) → (let o : Option LinkNo = slice_index_or (replicate n None) k None in o) ≡ None
    none_there zero k = refl
    none_there (suc n) zero = refl
    none_there (suc n) (suc k) = none_there n k

    clash : (link : LinkNo) → None ≡ Some link → ⊥
    clash link e = cc

module _ (w : Wiring) (me at : ℕ) (below : at < length w.ends) (links : List (Option LinkNo)) (so_far : AreNoted w me at links) where
  abbrev far : ℕ
  far = across w at me

  -- a link that the node is no end of joins it with none
  pub noted-not : is_end w at me ≡ false → AreNoted w me (at + 1) links
  noted-not e = record {
    size = so_far.size;
    there = so_far.there;
    join = λ to. so_far.join to ∙ ap (λ ls. noted links to ++ ls) (elsewhere w me to at below (ap (λ b. b && (across w at me == to)) e));
  }

  -- another link joins the node with its far end, and no link before it does
  pub noted-here : is_end w at me ≡ true → across w at me < length w.loopbacks → me < length w.loopbacks → JoinsOnce w →
      AreNoted w me (at + 1) (slice_set links (across w at me) (Some (record { 0 = at })))
  noted-here e low me_low once = record {
    size = length-set links far (Some (record { 0 = at })) ∙ so_far.size;
    there = λ to link f. elim (eqb_tells far to) [
      | inl p ↦ subst (λ (l : LinkNo). l.0 < length w.ends)
          (inside (sym same ∙ ap (λ k. slice_index_or (slice_set links far (Some (record { 0 = at }))) k None) p.1 ∙ f)) below
      | inr p ↦ so_far.there to link (sym (other to p.1) ∙ f)
    ];
    join = λ to. elim (eqb_tells far to) [
      | inl p ↦ subst (λ k. joining w me k ≡ noted (slice_set links far (Some (record { 0 = at }))) k ++ links_from w me k (at + 1)) p.1 joined
      | inr p ↦ so_far.join to
          ∙ ap (λ ls. noted links to ++ ls) (elsewhere w me to at below (ap (λ b. b && (far == to)) e ∙ p.0))
          ∙ ap (λ o. option_to_list (option_map as_number o) ++ links_from w me to (at + 1)) (sym (other to p.1))
    ];
  }
    where
      same : slice_index_or (slice_set links far (Some (record { 0 = at }))) far None ≡ Some (record { 0 = at })
      same = get_or-set_same links far (Some (record { 0 = at })) None (subst (λ n. far < n) (sym so_far.size) low)

      other : (to : ℕ) → far ≢ to → slice_index_or (slice_set links far (Some (record { 0 = at }))) to None ≡ slice_index_or links to None
      other to d = get_or-set_other links far to (Some (record { 0 = at })) None (λ e. d (sym e))

      inside : {a b : LinkNo} → Some a ≡ Some b → a ≡ b
      inside e = cc

      equal : (n : ℕ) → (n == n) ≡ true
      equal n = elim (eqb_tells n n) [ inl p ↦ p.0 | inr p ↦ absurd (p.1 refl) ]

      found : joining w me far ≡ noted links far ++ at ∷ links_from w me far (at + 1)
      found = so_far.join far ∙ ap (λ ls. noted links far ++ ls) (here w me far at below (ap (λ b. b && (far == far)) e ∙ equal far))

      alone : (o : Option LinkNo) (ls : List ℕ) → length (option_to_list (option_map as_number o) ++ at ∷ ls) ≤ 1 →
          option_to_list (option_map as_number o) ++ at ∷ ls ≡ at ∷ ls
      alone None ls h = refl
      alone (Some l) ls h = absurd (two (length ls) h)
        where
          two : (n : ℕ) → suc (suc n) ≤ 1 → ⊥
          two n h = omega (arith, h)

      joined : joining w me far ≡ noted (slice_set links far (Some (record { 0 = at }))) far ++ links_from w me far (at + 1)
      joined =
          found
          ∙ alone (slice_index_or links far None) (links_from w me far (at + 1)) (subst (λ ls. length ls ≤ 1) found (once me far me_low low))
          ∙ ap (λ o. option_to_list (option_map as_number o) ++ links_from w me far (at + 1)) (sym same)

-- the far end of a link is one of the nodes
pub far-low : (w : Wiring) (me at : ℕ) → JoinsNodes w → at < length w.ends → across w at me < length w.loopbacks
far-low w me at joins below = by ((link w at).a.0 == me)
  where
    by : (b : Bool) → (if b then (link w at).b.0 else (link w at).a.0) < length w.loopbacks
    by true = (joins at below).1
    by false = (joins at below).0

-- once all are noted
pub all-noted : (w : Wiring) (me at : ℕ) (links : List (Option LinkNo)) → length w.ends ≤ at → AreNoted w me at links → AreLinks w me links
all-noted w me at links h so_far = record {
  there = so_far.there;
  join = λ to. so_far.join to ∙ ap (λ ls. noted links to ++ ls) (past to) ∙ append-nil (noted links to);
}
  where
    none : (n at : ℕ) → n ≤ at → n - at ≡ 0
    none n at h = omega (arith, h)

    past : (to : ℕ) → links_from w me to at ≡ []
    past to = ap (λ n. filter (λ l. across w l me == to) (filter (λ l. is_end w l me) (range_with_len at n))) (none (length w.ends) at h)
