-- After every lawful journal a link is up exactly where it has changed an odd number of times.
use Rattle.std.proofs.Common.{ℕ, ◌≡◌, ◌≢◌, ◌+◌, inl, inr, Bool, true, false, List, [], ◌∷◌, refl, arith, sym, ◌∙◌, ap, Option, None}
use Rattle.std.specs.Prelude.{◌==◌, ◌%◌, not}
use Rattle.std.proofs.lemmas.Bool.Decides.{eqb_tells}
use Rattle.mn_topo.specs.Network.{Network}
use Rattle.mn_topo.specs.declared.steps.Step.{Step}
use Rattle.mn_topo.specs.declared.steps.Step.TheVariants.{LinkUp, LinkDown}
use Rattle.mn_topo.specs.declared.steps.JournalEntry.{JournalEntry}
use Rattle.mn_ledger.specs.declared.refused.Refused.{Refused}
use Rattle.mn_ledger.specs.declared.refused.Refused.TheVariants.{Unchanged, Empty}
use Rattle.mn_ledger.specs.Tables.{put}
use Rattle.mn_ledger.specs.World.{World}
use Rattle.mn_ledger.specs.Packets.{Packets, packets_after}
use Rattle.mn_ledger.specs.Ledger.{after, start, no_packets, next_of, left_by, world_from, world_of, packets_by}
use Rattle.mn_ledger.specs.Refusal.{is_unchanged, is_empty, where_holds, first_cause, limits, refusal_at}
use Rattle.mn_ledger.specs.Lawful.{IsLawfulFrom, IsLawfulJournal}
use Rattle.mn_ledger.proofs.GoingBy.{put_here, put_off, not_false}
use Rattle.mn_settled_laws.specs.Ways.{AreUpWhereOdd}
use Rattle.mn_ledger.specs.Time.{clock_after}

first_none : (a : Bool) (q : Refused) (rest : List (Option Refused)) → first_cause (where_holds a q ∷ rest) ≡ None → a ≡ false
first_none true q rest h = cc
first_none false q rest h = refl

pub not_unchanged : (t : Network) (w : World) (k : Packets) (i : ℕ) (s : Step) (b : List ℕ) → refusal_at t w k i s b ≡ None → is_unchanged w.config s ≡ false
not_unchanged t w k i s b h = first_none (is_unchanged w.config s) Unchanged (where_holds (is_empty t w k s) Empty ∷ limits t w k i s b) h

one_more : (n : ℕ) → ((n + 1) % 2 == 1) ≡ not (n % 2 == 1)
one_more n = elim (eqb_tells (n % 2) 1) [
  | inl p ↦ elim (eqb_tells ((n + 1) % 2) 1) [ inl q ↦ absurd (both n p.1 q.1) | inr q ↦ q.0 ∙ sym (ap not p.0) ]
  | inr p ↦ elim (eqb_tells ((n + 1) % 2) 1) [ inl q ↦ q.0 ∙ sym (ap not p.0) | inr q ↦ absurd (neither n p.1 q.1) ]
]
  where
    both : (n : ℕ) → n % 2 ≡ 1 → (n + 1) % 2 ≡ 1 → ⊥
    both n a b = omega (arith, a, b)

    neither : (n : ℕ) → n % 2 ≢ 1 → (n + 1) % 2 ≢ 1 → ⊥
    neither n a b = grind (arith, a, b)

turned : (w : World) (at : ℕ) (on : Bool) → AreUpWhereOdd w → w.config.is_up at ≡ not on → (l : ℕ)
    → put w.config.is_up at on l ≡ (put w.views.changes at (w.views.changes at + 1) l % 2 == 1)
turned w at on h was l = elim (eqb_tells l at) [
  | inl p ↦
      ap (put w.config.is_up at on) p.1 ∙ put_here w.config.is_up at on ∙ back on (w.config.is_up at) was ∙ ap not (h at) ∙ sym (one_more (w.views.changes at))
      ∙ sym (ap (λ n. n % 2 == 1) (ap (put w.views.changes at (w.views.changes at + 1)) p.1 ∙ put_here w.views.changes at (w.views.changes at + 1)))
  | inr p ↦ put_off w.config.is_up at on l p.1 ∙ h l ∙ sym (ap (λ n. n % 2 == 1) (put_off w.views.changes at (w.views.changes at + 1) l p.1))
]
  where
    back : (on was : Bool) → was ≡ not on → on ≡ not was
    back true was e = sym (ap not e)
    back false was e = sym (ap not e)

odd-step : (t : Network) (w : World) (s : Step) → is_unchanged w.config s ≡ false → AreUpWhereOdd w → AreUpWhereOdd (after t w s)
odd-step t w (LinkUp l) new h = turned w l.0 true h new
odd-step t w (LinkDown l) new h = turned w l.0 false h (not_false (w.config.is_up l.0) new)
odd-step t w _ new h = h

odd-on : (t : Network) (es : List JournalEntry) (tick : ℕ) (w : World) (k : Packets) (i : ℕ) (ps : List (List ℕ)) → IsLawfulFrom t tick w k i es ps
    → AreUpWhereOdd w → AreUpWhereOdd (world_from t w es)
odd-on t [] tick w k i ps lawful h = h
odd-on t (e ∷ es) tick w k i ps lawful h =
    odd-on t es (clock_after e) (after t w e.step) (packets_by t (after t w e.step) k e (next_of ps)) (i + 1) (left_by e.step ps) lawful.3
    (odd-step t w e.step (not_unchanged t w k i e.step (next_of ps) lawful.2) h)

pub up_where_odd : (t : Network) (es : List JournalEntry) (ps : List (List ℕ)) → IsLawfulJournal t es ps → AreUpWhereOdd (world_of t es)
up_where_odd t es ps journal = odd-on t es 0 (start t) no_packets 0 ps journal (λ l. refl)
