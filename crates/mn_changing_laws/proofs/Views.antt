-- While one link changes each node takes that link for up or for down, and all others for what they are.
use Rattle.std.proofs.Common.{ℕ, ◌≡◌, ◌≢◌, ◌+◌, ◌<◌, ◌≤◌, inl, inr, Bool, true, false, List, [], ◌∷◌, length, refl, arith, sym, ◌∙◌, ap, subst}
use Rattle.std.proofs.Common.{Option, Some, None}
use Rattle.std.specs.Prelude.{◌==◌, ◌%◌}
use Rattle.std.specs.List.{list_all}
use Rattle.std.proofs.lemmas.Bool.Decides.{eqb_tells}
use Rattle.mn_wiring.specs.Wiring.{across}
use Rattle.mn_wiring.specs.Paths.{next}
use Rattle.mn_base.proofs.Bools.{and_parts, same_numbers, at_most_is, clash}
use Rattle.mn_base.proofs.Members.{In, in_front, in_rest}
use Rattle.mn_topo.specs.Network.{Network, wiring_of}
use Rattle.mn_topo.specs.Lawful.{IsLawful}
use Rattle.mn_topo.specs.declared.steps.Step.{Step}
use Rattle.mn_topo.specs.declared.steps.Step.TheVariants.{LinkUp, LinkDown, Learn}
use Rattle.mn_topo.specs.declared.steps.JournalEntry.{JournalEntry}
use Rattle.mn_ledger.specs.Tables.{put, put_pair}
use Rattle.mn_ledger.specs.World.{World}
use Rattle.mn_ledger.specs.Packets.{Packets}
use Rattle.mn_ledger.specs.Transport.{view_of, knowledge_of, usable, usable_over, known}
use Rattle.mn_ledger.specs.Time.{clock_after}
use Rattle.mn_ledger.specs.Ledger.{after, next_of, left_by, world_from, packets_by}
use Rattle.mn_ledger.specs.Refusal.{is_empty}
use Rattle.mn_ledger.specs.Lawful.{IsLawfulFrom}
use Rattle.mn_ledger.proofs.GoingBy.{put_off, put_here, pair_off}
use Rattle.mn_ledger.proofs.InTurn.{not_empty}
use Rattle.mn_settled_laws.specs.Ways.{AreUpWhereOdd}
use Rattle.mn_settled_laws.proofs.Ways.{same-map}
use Rattle.mn_settled_laws.proofs.Hops.{some-next, hop-below}
use Rattle.mn_changing_laws.specs.BothNext.{neighbour_in}
use Rattle.mn_changing_laws.specs.Changing.{KnowAllChanges, changes_no_other, links_with, old_and_new_next}

module _ (t : Network) (old : World) (l : ℕ) where
  -- every other link has changed as often as in the world at the stretch's start, and each node has learned of all that
  pub record OthersStay (w : World) : Type 0 where
    pub changes : (x : ℕ) → x ≢ l → w.views.changes x ≡ old.views.changes x
    pub learned : (node x : ℕ) → node < length t.loopbacks → x < length t.links → x ≢ l → w.views.learned node x ≡ old.views.changes x

  pub others-stay-first : KnowAllChanges t old → OthersStay old
  others-stay-first known = record { changes = λ x d. refl; learned = λ node x below inside d. known node x below inside }

  turned : (w : World) (at : ℕ) → at ≡ l → OthersStay w → (x : ℕ) → x ≢ l → put w.views.changes at (w.views.changes at + 1) x ≡ old.views.changes x
  turned w at e h x d = put_off w.views.changes at (w.views.changes at + 1) x (λ f. d (f ∙ e)) ∙ h.changes x d

  pub others-stay-step : (w : World) (k : Packets) (s : Step) → changes_no_other l s ≡ true → is_empty t w k s ≡ false → OthersStay w → OthersStay (after t w s)
  others-stay-step w k (LinkUp m) same full h = record { changes = turned w m.0 (same_numbers m.0 l same) h; learned = h.learned }
  others-stay-step w k (LinkDown m) same full h = record { changes = turned w m.0 (same_numbers m.0 l same) h; learned = h.learned }
  others-stay-step w k (Learn n m) same full h = record { changes = h.changes; learned = learned }
    where
      at-most : {a b : ℕ} → a ≡ b → a ≤ b
      at-most e = omega (arith, e)

      learned : (node x : ℕ) → node < length t.loopbacks → x < length t.links → x ≢ l
          → put_pair w.views.learned n.0 m.0 (w.views.learned n.0 m.0 + 1) node x ≡ old.views.changes x
      learned node x below inside d = elim (eqb_tells node n.0) [
        | inr p ↦ pair_off w.views.learned n.0 m.0 (w.views.learned n.0 m.0 + 1) node x (inl p.1) ∙ h.learned node x below inside d
        | inl p ↦ elim (eqb_tells x m.0) [
          | inr q ↦ pair_off w.views.learned n.0 m.0 (w.views.learned n.0 m.0 + 1) node x (inr q.1) ∙ h.learned node x below inside d
          | inl q ↦
              let nothing_more : w.views.changes m.0 ≡ w.views.learned n.0 m.0 = ap w.views.changes (sym q.1) ∙ h.changes x d
              ∙ sym (h.learned node x below inside d) ∙ ap (λ i. w.views.learned i x) p.1 ∙ ap (w.views.learned n.0) q.1 in
              absurd (clash (sym (at_most_is (w.views.changes m.0) (w.views.learned n.0 m.0) (at-most nothing_more)) ∙ full))
        ]
      ]
  others-stay-step w k _ same full h = record { changes = h.changes; learned = h.learned }

  pub others-stay : (es : List JournalEntry) (tick : ℕ) (w : World) (k : Packets) (i : ℕ) (ps : List (List ℕ)) → IsLawfulFrom t tick w k i es ps
      → list_all (λ entry. changes_no_other l entry.step) es ≡ true → OthersStay w → OthersStay (world_from t w es)
  others-stay [] tick w k i ps lawful alone h = h
  others-stay (e ∷ es) tick w k i ps lawful alone h =
      let parts = and_parts (changes_no_other l e.step) (list_all (λ entry. changes_no_other l entry.step) es) alone in
      others-stay es (clock_after e) (after t w e.step) (packets_by t (after t w e.step) k e (next_of ps)) (i + 1) (left_by e.step ps) lawful.3 parts.1
      (others-stay-step w k e.step parts.0 (not_empty t w k i e.step (next_of ps) lawful.2) h)

  pub takes : (w : World) (node : ℕ) → OthersStay w → AreUpWhereOdd old → node < length t.loopbacks
      → view_of (wiring_of t) w.views node ≡ links_with t old l (w.views.learned node l % 2 == 1)
  takes w node h odd below =
      same-map (λ x. w.views.learned node x % 2 == 1) (put old.config.is_up l (w.views.learned node l % 2 == 1)) 0 (length t.links) each
    where
      each : (x : ℕ) → x < 0 + length t.links → (w.views.learned node x % 2 == 1) ≡ put old.config.is_up l (w.views.learned node l % 2 == 1) x
      each x inside = elim (eqb_tells x l) [
        | inl p ↦ sym (ap (put old.config.is_up l (w.views.learned node l % 2 == 1)) p.1 ∙ put_here old.config.is_up l (w.views.learned node l % 2 == 1)
            ∙ ap (λ y. w.views.learned node y % 2 == 1) (sym p.1))
        | inr p ↦ ap (λ n. n % 2 == 1) (h.learned node x below (omega (arith, inside)) p.1) ∙ sym (odd x)
            ∙ sym (put_off old.config.is_up l (w.views.learned node l % 2 == 1) x p.1)
      ]

  -- where a node sends
  some-over : (w : World) (node edge : ℕ) (o : Option (ℕ × ℕ)) (hop : ℕ × ℕ) → usable_over (known t w node) edge o ≡ Some hop → o ≡ Some hop
  some-over w node edge None hop h = h
  some-over w node edge (Some other) hop h = by _ h
    where
      by : (b : Bool) → elim b as (λ _. Option (ℕ × ℕ)) [ true ↦ Some other | false ↦ None ] ≡ Some hop → Some other ≡ Some hop
      by true e = e
      by false e = cc

  usable-next : (w : World) (node edge : ℕ) (hop : ℕ × ℕ) → usable t w.config w.views w.sessions node edge ≡ Some hop
      → next (wiring_of t) (view_of (wiring_of t) w.views node) node edge ≡ Some hop
  unfolding knowledge_of
  usable-next w node edge hop h = some-over w node edge (next (wiring_of t) (view_of (wiring_of t) w.views node) node edge) hop h

  in-both : (b : Bool) (edge node : ℕ) (hop : ℕ × ℕ) → next (wiring_of t) (links_with t old l b) node edge ≡ Some hop
      → In (old_and_new_next t old l edge node) hop.0
  in-both false edge node hop e =
      in_front (neighbour_in (next (wiring_of t) (links_with t old l false) node edge)) (neighbour_in (next (wiring_of t) (links_with t old l true) node edge))
      hop.0
      (subst (λ o. In (neighbour_in o) hop.0) (sym e) (inl refl))
  in-both true edge node hop e =
      in_rest (neighbour_in (next (wiring_of t) (links_with t old l false) node edge)) (neighbour_in (next (wiring_of t) (links_with t old l true) node edge))
      hop.0
      (subst (λ o. In (neighbour_in o) hop.0) (sym e) (inl refl))

  pub sends : (w : World) (node edge : ℕ) (hop : ℕ × ℕ) → IsLawful t → OthersStay w → AreUpWhereOdd old → node < length t.loopbacks
      → usable t w.config w.views w.sessions node edge ≡ Some hop
      → (In (old_and_new_next t old l edge node) hop.0) × (hop.0 ≡ across (wiring_of t) hop.1 node) × (hop.0 < length t.loopbacks)
  sends w node edge hop lawful h odd below is =
      let b : Bool = w.views.learned node l % 2 == 1 in
      let by_view : next (wiring_of t) (links_with t old l b) node edge ≡ Some hop =
      ap (λ v. next (wiring_of t) v node edge) (sym (takes w node h odd below)) ∙ usable-next w node edge hop is in
      let some = (some-next t (links_with t old l b) lawful edge node hop below by_view).1 in
      (in-both b edge node hop by_view, some.0, hop-below t (links_with t old l b) lawful edge node hop some)
