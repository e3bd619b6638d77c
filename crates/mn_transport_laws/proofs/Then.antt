-- After a step a node counts what is owed, and since when its FECs are at rest; and they are free by its count as by the ledger's.
use Rattle.std.proofs.Common.{ℕ, zero, suc, ◌≡◌, ◌+◌, ◌<◌, ◌≤◌, ◌⊎◌, inl, inr, Bool, true, false, List, [], ◌∷◌, length, refl, arith, sym, ◌∙◌, ap, subst}
use Rattle.std.proofs.Common.{Option, None}
use Rattle.std.specs.Prelude.{◌==◌, ◌&&◌, ◌||◌, not, nat_le, nat_lt, filter, if◌then◌else◌, slice_index_or}
use Rattle.std.specs.List.{list_all}
use Rattle.std.proofs.lemmas.Bool.Decides.{leb_tells}
use Rattle.std.proofs.lemmas.List.{get_or_past}
use Rattle.mn_base.proofs.Bools.{clash, no, and_left, and_right, and_on, same_test, same_numbers, two_ways, not_at_most_tells}
use Rattle.mn_base.proofs.Members.{In, in_filter, filter_in, in_range, range_in}
use Rattle.mn_wiring.specs.Wiring.{is_end, across, joining, links_at, links_of, nodes_of}
use Rattle.mn_topo.specs.Network.{Network, wiring_of}
use Rattle.mn_topo.specs.Lawful.{IsLawful}
use Rattle.mn_topo.specs.declared.steps.Step.{Step}
use Rattle.mn_node.specs.Ldp.{Message, Said, messages_of}
use Rattle.mn_ledger.specs.World.{World, Sessions}
use Rattle.mn_ledger.specs.Transport.{lives, is_active, with_said}
use Rattle.mn_ledger.specs.Ledger.{after}
use Rattle.mn_ledger.specs.Turns.{IsTalk, EndsAreInTurn}
use Rattle.mn_ledger.proofs.Mentions.{operational-is}
use Rattle.mn_settled_laws.specs.Offers.{is_operational_on, offers_in}
use Rattle.mn_releases.specs.Rests.{Resting, row_of, count_in, owes_none, is_over}
use Rattle.mn_bindings.specs.Known.{all_stopped}
use Rattle.mn_reuse_laws.specs.Answers.{count_by, is_withdraw, withdraws, releases}
use Rattle.mn_reuse_laws.specs.Resting.{is_released, ends_offer, rested_after}
use Rattle.mn_reuse_laws.specs.Labels.{longest_life, is_free}
use Rattle.mn_reuse_laws.proofs.Answering.{Released}
use Rattle.mn_reuse_laws.proofs.Blocking.{all_at, link_at}
use Rattle.mn_lsr.specs.Turns.{owed_for_said}
use Rattle.mn_transport_laws.specs.Resting.{IsResting, HasRow}
use Rattle.mn_transport_laws.proofs.Rows.{LeadsAlone, AllSaidBy, owed-none, owed-length, owed-rested, stopped-owed, stopped-on, stopped-off}
use Rattle.mn_transport_laws.proofs.Owed.{counts-row, few-released}
use Rattle.mn_transport_laws.proofs.Rested.{HasCounts, row-said}
use Rattle.mn_transport_laws.proofs.Counting.{GoesBy, is_on, lays_by}

-- 1. After a step

module _ (t : Network) (w : World) (s : Step) (k : Sessions) (m tick : ℕ) (xs ys : List Said) (below : m < length t.loopbacks)
    (sessions : (after t w s).sessions ≡ with_said k ys) (mine : (l : ℕ) → messages_of l m ys ≡ messages_of l m xs)
    (all : AllSaidBy (wiring_of t) m xs)
    (leads : (l : ℕ) → l < length t.links → is_end (wiring_of t) l m ≡ true → LeadsAlone (wiring_of t) m l (across (wiring_of t) l m))
    (within : (l : ℕ) → l < length t.links → is_end (wiring_of t) l m ≡ true → k.heard l m ≤ length (k.said l (across (wiring_of t) l m)))
    (rested : ℕ → ℕ) (r next : Resting) (goes : GoesBy t w k tick m (lays_by t w s m) (is_on t (after t w s).config k m) r next)
    (is : IsResting t w rested m r) where
  abbrev owed : Resting
  owed = owed_for_said (wiring_of t) m next xs

  abbrev ended : List ℕ
  ended = filter (ends_offer t w s m) (nodes_of (wiring_of t))

  abbrev last : Resting
  last = all_stopped tick owed ended

  has_row : (l : ℕ) (b : Bool) (row : Option (List ℕ)) → HasCounts t (after t w s).sessions l m b row → HasRow t (after t w s) m l b row
  has_row l true row h = (h.0, h.1, counts-row t (after t w s) m l h.0 h.2)
  has_row l false row h = h

  on_after : (l : ℕ) → l < length t.links → is_operational_on t (after t w s) m l ≡ is_on t (after t w s).config k m l
  on_after l inside =
      operational-is (wiring_of t) (after t w s).config (after t w s).views (after t w s).sessions m l inside
      ∙ ap (λ (x : Sessions). (lives (after t w s).config l && is_end (wiring_of t) l m) && nat_le 2 (x.heard l m)) sessions

  rows_then : (l : ℕ) → l < length t.links → is_end (wiring_of t) l m ≡ true →
      HasRow t (after t w s) m l (is_operational_on t (after t w s) m l) (row_of last (across (wiring_of t) l m))
  rows_then l inside at =
      has_row l (is_operational_on t (after t w s) m l) (row_of last (across (wiring_of t) l m))
      (subst (λ b. HasCounts t (after t w s).sessions l m b (row_of last (across (wiring_of t) l m))) (sym (on_after l inside))
      (subst (λ rows. HasCounts t (after t w s).sessions l m (is_on t (after t w s).config k m l) (slice_index_or rows (across (wiring_of t) l m) None))
      (sym (stopped-owed tick ended owed).0)
      (subst (λ x. HasCounts t x l m (is_on t (after t w s).config k m l) (row_of owed (across (wiring_of t) l m))) (sym sessions)
      (row-said t k xs ys l m (is_on t (after t w s).config k m l) next (leads l inside at) all (mine l) (within l inside at) (goes.rows l inside at)))))

  long_owed : length owed.rested ≡ length t.loopbacks
  long_owed = ap length (owed-rested (wiring_of t) m xs next).0 ∙ goes.long.rested ∙ is.fecs

  tick_owed : (p : ℕ) → slice_index_or owed.rested p 0 ≡ slice_index_or next.rested p 0
  tick_owed p = ap (λ ns. slice_index_or ns p 0) (owed-rested (wiring_of t) m xs next).0

  ticks_then : (p : ℕ) → p < length t.loopbacks → slice_index_or last.rested p 0 ≡ rested_after t w tick s m rested p
  ticks_then p inside = elim (two_ways (ends_offer t w s m p)) [
    | inl ends ↦
        stopped-on tick ended owed p (subst (λ n. p < n) (sym long_owed) inside)
        (filter_in (ends_offer t w s m) (nodes_of (wiring_of t)) p (range_in 0 (length t.loopbacks) p (omega arith) (omega (arith, inside))) ends)
        ∙ sym (ap (λ b. if b || lays_by t w s m p then tick else rested p) ends)
    | inr off ↦
        stopped-off tick ended owed p (λ i. clash (sym (in_filter (ends_offer t w s m) (nodes_of (wiring_of t)) p i).1 ∙ off)) ∙ tick_owed p
        ∙ by off (two_ways (lays_by t w s m p))
  ]
    where
      by : ends_offer t w s m p ≡ false → (lays_by t w s m p ≡ true) ⊎ (lays_by t w s m p ≡ false) →
          slice_index_or next.rested p 0 ≡ rested_after t w tick s m rested p
      by off (inl laid) = goes.laid p inside laid
          ∙ sym (ap (λ b. if b || lays_by t w s m p then tick else rested p) off ∙ ap (λ b. if b then tick else rested p) laid)
      by off (inr still) = goes.still p inside still ∙ is.rested_is p inside
          ∙ sym (ap (λ b. if b || lays_by t w s m p then tick else rested p) off ∙ ap (λ b. if b then tick else rested p) still)

  pub rests-then : IsResting t (after t w s) (rested_after t w tick s m rested) m last
  rests-then = record {
    neighbours = ap length (stopped-owed tick ended owed).0 ∙ owed-length (wiring_of t) m xs next ∙ goes.long.owed ∙ is.neighbours;
    fecs = (stopped-owed tick ended owed).2 ∙ long_owed;
    rows = rows_then;
    strangers = λ other d. ap (λ rows. slice_index_or rows other None) (stopped-owed tick ended owed).0
        ∙ owed-none (wiring_of t) m other xs next (goes.strangers other d ∙ is.strangers other d);
    rested_is = ticks_then;
    life = (stopped-owed tick ended owed).1 ∙ (owed-rested (wiring_of t) m xs next).1 ∙ goes.long.life ∙ is.life;
  }

-- 2. Which FECs are free

both_ways : (a b : Bool) → (a ≡ true → b ≡ true) → (b ≡ true → a ≡ true) → a ≡ b
both_ways true b f g = sym (f refl)
both_ways false true f g = absurd (no (g refl))
both_ways false false f g = refl

all_from : {A : Type 0} (q : A → Bool) (xs : List A) → ((x : A) → In xs x → q x ≡ true) → list_all q xs ≡ true
all_from q [] h = refl
all_from q (x ∷ xs) h = and_on _ _ (h x (inl refl)) (all_from q xs (λ y i. h y (inr i)))

rows_from : (q : Option (List ℕ) → Bool) (rows : List (Option (List ℕ))) → ((i : ℕ) → i < length rows → q (slice_index_or rows i None) ≡ true) →
    list_all q rows ≡ true
rows_from q [] h = refl
rows_from q (row ∷ rows) h = and_on _ _ (h zero (omega arith)) (rows_from q rows (λ i inside. h (suc i) (omega (arith, inside))))

row_at : (q : Option (List ℕ) → Bool) (rows : List (Option (List ℕ))) (i : ℕ) → list_all q rows ≡ true → i < length rows → q (slice_index_or rows i None) ≡ true
row_at q [] i h inside = absurd (let none : i < 0 → ⊥ = (λ p. omega (arith, p)) in none inside)
row_at q (row ∷ rows) zero h inside = and_left (q row) (list_all q rows) h
row_at q (row ∷ rows) (suc i) h inside = row_at q rows i (and_right (q row) (list_all q rows) h) (omega (arith, inside))

-- where the node isn't OPERATIONAL it has withdrawn nothing
talk_none : (a : Bool) (h p : ℕ) (ms : List Message) → h < 2 → IsTalk a h ms → count_by (is_withdraw p) ms ≡ 0
talk_none true zero p ms few h = ap (count_by (is_withdraw p)) h
talk_none false zero p ms few h = ap (count_by (is_withdraw p)) h
talk_none true (suc zero) p ms few h = ap (count_by (is_withdraw p)) h
talk_none false (suc zero) p ms few h = ap (count_by (is_withdraw p)) h
talk_none a (suc (suc n)) p ms few h = absurd (beyond few)
  where
    beyond : suc (suc n) < 2 → ⊥
    beyond f = omega (arith, f)

module _ (t : Network) (lawful : IsLawful t) (w : World) (m : ℕ) (free : Released t w.sessions) (turn : EndsAreInTurn t w.config w.sessions) where
  pub silent : (l p : ℕ) → l < length t.links → is_end (wiring_of t) l m ≡ true → is_operational_on t w m l ≡ false → withdraws w l m p ≡ 0
  silent l p inside at off = elim (two_ways (lives w.config l)) [
    | inr dead ↦ ap (count_by (is_withdraw p)) ((turn l m inside at).silent dead).0
    | inl alive ↦ talk_none (is_active t l m) (w.sessions.heard l m) p (w.sessions.said l m)
        (not_at_most_tells 2 (w.sessions.heard l m) (sym (operational-is (wiring_of t) w.config w.views w.sessions m l inside
        ∙ ap (λ b. (b && is_end (wiring_of t) l m) && nat_le 2 (w.sessions.heard l m)) alive ∙ ap (λ b. b && nat_le 2 (w.sessions.heard l m)) at) ∙ off))
        ((turn l m inside at).talk alive)
  ]

  module _ (rested : ℕ → ℕ) (r : Resting) (is : IsResting t w rested m r) where
    -- a neighbour owes a Release exactly where one was withdrawn and not released
    counted : (l p : ℕ) → l < length t.links → is_end (wiring_of t) l m ≡ true → p < length t.loopbacks →
        count_in (row_of r (across (wiring_of t) l m)) p + releases t w l m p ≡ withdraws w l m p
    counted l p inside at under = by (is_operational_on t w m l) refl (is.rows l inside at)
      where
        by : (b : Bool) → is_operational_on t w m l ≡ b → HasRow t w m l b (row_of r (across (wiring_of t) l m)) →
            count_in (row_of r (across (wiring_of t) l m)) p + releases t w l m p ≡ withdraws w l m p
        by true e h = ap (λ o. count_in o p + releases t w l m p) h.1 ∙ h.2.counts p under
        by false e h =
            let none = silent l p inside at e in
            let few = few-released t w.sessions l m p (w.sessions.heard l m) lawful free inside at in
            ap (λ o. count_in o p + releases t w l m p) h ∙ zero-both _ _ few none
          where
            zero-both : (a b : ℕ) → a ≤ b → b ≡ 0 → 0 + a ≡ b
            zero-both a b f e = omega (arith, f, e)

    over_is : (p : ℕ) → p < length t.loopbacks → list_all (owes_none p) r.owed ≡ list_all (is_released t w m p) (links_at (wiring_of t) m)
    over_is p under = both_ways (list_all (owes_none p) r.owed) (list_all (is_released t w m p) (links_at (wiring_of t) m)) forth back
      where
        forth : list_all (owes_none p) r.owed ≡ true → list_all (is_released t w m p) (links_at (wiring_of t) m) ≡ true
        forth h = all_from (is_released t w m p) (links_at (wiring_of t) m) (λ l i.
            let there = in_filter (λ k. is_end (wiring_of t) k m) (links_of (wiring_of t)) l i in
            let inside : l < length t.links = omega (arith, (in_range 0 (length t.links) l there.0).1) in
            equal (withdraws w l m p) (releases t w l m p) (only _ _ _ (counted l p inside there.1 under) (none l)))
          where
            equal : (a b : ℕ) → a ≡ b → (a == b) ≡ true
            equal a b e = ap (λ n. n == b) e ∙ same_test b

            only : (a b c : ℕ) → a + b ≡ c → a ≡ 0 → c ≡ b
            only a b c e f = omega (arith, e, f)

            none : (l : ℕ) → count_in (row_of r (across (wiring_of t) l m)) p ≡ 0
            none l = elim (leb_tells (length r.owed) (across (wiring_of t) l m)) [
              | inl past ↦ ap (λ o. count_in o p) (get_or_past r.owed (across (wiring_of t) l m) None past.1)
              | inr in_it ↦ same_numbers (count_in (row_of r (across (wiring_of t) l m)) p) 0 (row_at (owes_none p) r.owed (across (wiring_of t) l m) h in_it.1)
            ]

        back : list_all (is_released t w m p) (links_at (wiring_of t) m) ≡ true → list_all (owes_none p) r.owed ≡ true
        back h = rows_from (owes_none p) r.owed (λ i inside. by i (joining (wiring_of t) m i) refl)
          where
            by : (i : ℕ) (ls : List ℕ) → joining (wiring_of t) m i ≡ ls → owes_none p (row_of r i) ≡ true
            by i [] e = ap (owes_none p) (is.strangers i (λ l below at q. subst (λ xs. In xs l) e
                (filter_in (λ k. across (wiring_of t) k m == i) (links_at (wiring_of t) m) l (link_at t l m below at) (ap (λ n. n == i) q ∙ same_test i))))
            by i (l ∷ ls) e =
                let joins = in_filter (λ k. across (wiring_of t) k m == i) (links_at (wiring_of t) m) l (subst (λ xs. In xs l) (sym e) (inl refl)) in
                let there = in_filter (λ k. is_end (wiring_of t) k m) (links_of (wiring_of t)) l joins.0 in
                let below : l < length t.links = omega (arith, (in_range 0 (length t.links) l there.0).1) in
                let far = same_numbers (across (wiring_of t) l m) i joins.1 in
                let released = same_numbers (withdraws w l m p) (releases t w l m p) (all_at (is_released t w m p) (links_at (wiring_of t) m) l h joins.0) in
                ap (λ n. n == 0) (ap (λ j. count_in (row_of r j) p) (sym far) ∙ nothing _ _ _ (counted l p below there.1 under) released)
              where
                nothing : (a b c : ℕ) → a + b ≡ c → c ≡ b → a ≡ 0
                nothing a b c f g = omega (arith, f, g)

    -- and so it is free by its count as by the ledger's
    pub free-is : (tick p : ℕ) → p < length t.loopbacks → (not (offers_in t w m p) && is_over r tick p) ≡ is_free t w m rested tick p
    free-is tick p under =
        ap (λ b. not (offers_in t w m p) && (b && nat_lt (slice_index_or r.rested p 0 + r.life) tick)) (over_is p under)
        ∙ ap (λ n. not (offers_in t w m p) && (list_all (is_released t w m p) (links_at (wiring_of t) m) && nat_lt (n + r.life) tick)) (is.rested_is p under)
        ∙ ap (λ n. not (offers_in t w m p) && (list_all (is_released t w m p) (links_at (wiring_of t) m) && nat_lt (rested p + n) tick)) is.life
        ∙ and-apart (not (offers_in t w m p)) (list_all (is_released t w m p) (links_at (wiring_of t) m))
        (nat_lt (rested p + longest_life t (links_at (wiring_of t) m)) tick)
      where
        and-apart : (a b c : Bool) → (a && (b && c)) ≡ ((a && b) && c)
        and-apart true b c = refl
        and-apart false b c = refl
