-- What a step delivered is the newest copy, and there is one packet that is that.
use Rattle.std.proofs.Common.{ℕ, zero, suc, ◌≡◌, ◌+◌, ◌<◌, ◌≤◌, cond, true, List, [], ◌∷◌, length, slice_index_or, Option, Some, None, inl, inr, refl, arith}
use Rattle.std.proofs.Common.{sym, ◌∙◌, ap, subst}
use Rattle.std.specs.Prelude.{slice_get}
use Rattle.std.proofs.lemmas.Bool.Decides.{eqb_tells}
use Rattle.std.proofs.lemmas.Option.{same_Some}
use Rattle.mn_base.specs.declared.numbers.SiteNo.{SiteNo}
use Rattle.mn_base.proofs.Bools.{no}
use Rattle.mn_topo.specs.Network.{Network}
use Rattle.mn_topo.specs.declared.steps.JournalEntry.{JournalEntry}
use Rattle.mn_ledger.specs.declared.verdict.Verdict.{Verdict}
use Rattle.mn_ledger.specs.declared.verdict.Verdict.TheVariants.{Delivered, Dropped, Flying}
use Rattle.mn_ledger.specs.World.{World}
use Rattle.mn_ledger.specs.Packets.{Packets}
use Rattle.mn_ledger.specs.Ledger.{after, start, no_packets, injects, next_of, left_by, packets_from, packets_of, packets_by}
use Rattle.mn_ledger.specs.Time.{timed}
use Rattle.mn_ledger.specs.Verdicts.{one_if, AreInOnePlace}
use Rattle.mn_ledger.proofs.OnePlace.{stepped, timed_places}
use Rattle.mn_ledger_laws.specs.Accounts.{is_copy}
use Rattle.mn_ledger_laws.proofs.Copies.{Goes, goes, nowhere, numbered}
use Rattle.mn_frame_laws.specs.Given.{Labelling}
use Rattle.mn_transit.specs.Moving.{Moving}
use Rattle.mn_transit.specs.Stands as transit
use Rattle.mn_transit.specs.Landed.{site_as, IsLast, HasLandedBy, HasLanded}
use Rattle.mn_net.specs.Landing.{IsLandingOf, IsLanding}

-- 1. Where the last step delivered something, there are copies

abbrev IsCounted : Packets → Type 0
IsCounted k = (b : List ℕ) → k.delivered ≡ Some b → 1 ≤ k.copies

no_bytes : (b : List ℕ) → None ≡ Some b → ⊥
no_bytes b h = cc

counted_by : (k w : Packets) → Goes k w → IsCounted w
counted_by k w g b h = elim g [ inl q ↦ absurd (no_bytes b (sym q.delivered ∙ h)) | inr d ↦ omega (arith, d.copies) ]

counted_from : (t : Network) (es : List JournalEntry) (w : World) (k : Packets) (count : ℕ) (ps : List (List ℕ)) → AreInOnePlace k count → IsCounted k
    → IsCounted (packets_from t w k es ps)
counted_from t [] w k count ps one h = h
counted_from t (e ∷ es) w k count ps one h =
    let v : World = after t w e.step in
    let q : Packets = packets_by t v k e (next_of ps) in
    let now : Packets = timed t e k in
    let placed : AreInOnePlace now count = timed_places t e k count one in
    counted_from t es v q (one_if (injects e.step) + count) (left_by e.step ps) (stepped t v now e.step (next_of ps) count placed)
    (counted_by now q (goes t w now count e.step (next_of ps) placed))

-- 2. The verdict of the newest copy

-- a verdict that is a copy tells its site
no_site : (c : ℕ) (v : Verdict) → is_copy c v ≡ true → site_as c (Some v) ≡ None → ⊥
no_site c (Delivered ttl s n) h none = some (sym (ap (λ b. cond b (Some s) None) h) ∙ none)
  where
    some : Some s ≡ None → ⊥
    some e = cc
no_site c (Dropped cause node) h none = no h
no_site c (Flying link dir) h none = no h

no_site_at : (c : ℕ) (vs : List Verdict) (p : ℕ) → p < length vs → is_copy c (slice_index_or vs p (Delivered 0 (record { 0 = 0 }) 0)) ≡ true
    → site_as c (slice_get vs p) ≡ None → ⊥
no_site_at c [] p below h none = omega (arith, below)
no_site_at c (v ∷ vs) zero below h none = no_site c v h none
no_site_at c (v ∷ vs) (suc p) below h none = no_site_at c vs p (omega (arith, below)) h none

abbrev IsAt : ℕ → List Verdict → ℕ → SiteNo → Type 0
IsAt c vs p s = (ttl : ℕ) × (p < length vs) × (slice_index_or vs p (Delivered 0 (record { 0 = 0 }) 0) ≡ Delivered ttl s c)

sited : (c : ℕ) (vs : List Verdict) (p : ℕ) (s : SiteNo) → site_as c (slice_get vs p) ≡ Some s → IsAt c vs p s
sited c [] p s h = absurd (none h)
  where
    none : site_as c (slice_get [] p) ≡ Some s → ⊥
    none h = cc
sited c (Delivered ttl r n ∷ vs) zero s h = elim (eqb_tells n c) [
  | inl q ↦ (ttl, omega arith, ap (Delivered ttl r) q.1 ∙ ap (λ x. Delivered ttl x c) (same_Some r s (sym (ap (λ b. cond b (Some r) None) q.0) ∙ h)))
  | inr q ↦ absurd (none (sym (ap (λ b. cond b (Some r) None) q.0) ∙ h))
]
  where
    none : None ≡ Some s → ⊥
    none h = cc
sited c (Dropped cause node ∷ vs) zero s h = absurd (none h)
  where
    none : None ≡ Some s → ⊥
    none h = cc
sited c (Flying link dir ∷ vs) zero s h = absurd (none h)
  where
    none : None ≡ Some s → ⊥
    none h = cc
sited c (v ∷ vs) (suc p) s h = let r = sited c vs p s h in (r.0, omega (arith, r.1), r.2)

-- 3. The landing

module _ (t : Network) (es : List JournalEntry) (ps : List (List ℕ)) where
  abbrev k : Packets
  k = packets_of t es ps

  counted : IsCounted k
  counted = counted_from t es (start t) no_packets 0 ps nowhere (λ b h. absurd (no_bytes b h))

  is_one : (b : List ℕ) → k.delivered ≡ Some b → IsLast k.copies k.verdicts None → ⊥
  is_one b h none =
      let copy = (numbered t es ps).each (packets_of t es ps).copies (counted b h) (omega arith) in
      no_site_at (packets_of t es ps).copies (packets_of t es ps).verdicts copy.0 copy.1 copy.2 (none copy.0)

  by_delivered : (o : Option (List ℕ)) (r : Option (ℕ × SiteNo)) → k.delivered ≡ o → HasLandedBy k.copies k.verdicts o r → IsLandingOf k o r
  by_delivered None r e h = h
  by_delivered (Some b) None e h = is_one b e h
  by_delivered (Some b) (Some found) e h = sited (packets_of t es ps).copies (packets_of t es ps).verdicts found.0 found.1 h

  pub landing : (given : Labelling) (moving : Moving) (r : Option (ℕ × SiteNo)) → transit.StandsFor t given moving k → HasLanded moving r → IsLanding k r
  landing given moving r stands h = by_delivered (packets_of t es ps).delivered r refl
      (subst (λ o. HasLandedBy (packets_of t es ps).copies (packets_of t es ps).verdicts o r) stands.delivered
      (subst (λ n. HasLandedBy n (packets_of t es ps).verdicts moving.delivered r) stands.copies
      (subst (λ vs. HasLandedBy moving.copies vs moving.delivered r) stands.verdicts h)))
