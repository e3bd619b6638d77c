-- What the last step of a network delivered; and that an injection leaves the verdicts of earlier packets.
use Rattle.std.proofs.Common.{ℕ, suc, ◌≡◌, ◌+◌, ◌<◌, cond, List, [], ◌∷◌, ◌++◌, length, take, slice_index_or, Option, Some, None}
use Rattle.std.proofs.Common.{refl, arith, sym, ◌∙◌, ap, subst, inl, inr}
use Rattle.std.proofs.lemmas.Bool.Decides.{eqb_tells}
use Rattle.std.proofs.lemmas.List.{length-append}
use Rattle.mn_base.specs.declared.numbers.SiteNo.{SiteNo}
use Rattle.mn_topo.specs.Network.{Network}
use Rattle.mn_topo.specs.declared.steps.Step.TheVariants.{Inject}
use Rattle.mn_topo.specs.declared.steps.Damaged.TheVariants.{Undamaged}
use Rattle.mn_topo.specs.declared.steps.JournalEntry.{JournalEntry}
use Rattle.mn_ledger.specs.declared.verdict.Verdict.{Verdict}
use Rattle.mn_ledger.specs.declared.verdict.Verdict.TheVariants.{Delivered, Dropped, Flying}
use Rattle.mn_ledger.specs.Ledger.{packets_of}
use Rattle.mn_ledger.specs.Packets.{Packets}
use Rattle.mn_ledger.specs.Time.{clock_after}
use Rattle.mn_ledger.specs.Verdicts.{injections, verdict_on}
use Rattle.mn_ledger.proofs.OnePlace.{in_one_place}
use Rattle.mn_ledger_laws.specs.Accounts.{Sending, IsSent, world_at, packets_at}
use Rattle.mn_ledger_laws.proofs.At.{bytes_of, packets_step, packets_longer, packets_whole}
use Rattle.mn_ledger_laws.proofs.Elsewhere.{Same}
use Rattle.mn_ledger_laws.proofs.Moving.{same_step}
use Rattle.mn_ledger_laws.proofs.Fates.{in_verdicts, placed, sent_before}
use Rattle.mn_join_laws.specs.Pairing.{Landing, landed, landed_by, landed_as}
use Rattle.mn_join_laws.proofs.Growing.{get_end, within, moves, Moves}

-- 1. The landing

abbrev pub copy_of : Verdict → ℕ
copy_of (Delivered ttl site copy) = copy
copy_of _ = 0

-- among these verdicts, from this number on
record IsAmong (copies : ℕ) (bytes : List ℕ) (packet : ℕ) (vs : List Verdict) (landing : Landing) : Type 0 where
  at : ℕ
  is : landing.packet ≡ packet + at
  there : at < length vs
  site : SiteNo
  ttl : ℕ
  same_site : site.0 ≡ landing.site
  verdict : slice_index_or vs at (Delivered 0 (record { 0 = 0 }) 0) ≡ Delivered ttl site copies
  same : landing.bytes ≡ bytes

further : (copies : ℕ) (bytes : List ℕ) (packet : ℕ) (v : Verdict) (vs : List Verdict) (landing : Landing) → IsAmong copies bytes (packet + 1) vs landing
    → IsAmong copies bytes packet (v ∷ vs) landing
further copies bytes packet v vs landing h = record {
  at = suc h.at;
  is = omega (arith, h.is);
  there = omega (arith, h.there);
  site = h.site;
  ttl = h.ttl;
  same_site = h.same_site;
  verdict = h.verdict;
  same = h.same;
}

among : (copies : ℕ) (bytes : List ℕ) (packet : ℕ) (vs : List Verdict) (landing : Landing) → landed_as copies bytes packet vs ≡ Some landing
    → IsAmong copies bytes packet vs landing
among copies bytes packet [] landing h = absurd (none h)
  where
    none : None ≡ Some landing → ⊥
    none h = cc
among copies bytes packet (Delivered ttl site copy ∷ vs) landing h = elim (eqb_tells copy copies) [
  | inl q ↦ here (sym (ap (λ b. cond b (Some found) (landed_as copies bytes (packet + 1) vs)) q.0) ∙ h) q.1
  | inr q ↦ further copies bytes packet (Delivered ttl site copy) vs landing
      (among copies bytes (packet + 1) vs landing (sym (ap (λ b. cond b (Some found) (landed_as copies bytes (packet + 1) vs)) q.0) ∙ h))
]
  where
    found : Landing
    found = record { packet = packet; site = site.0; bytes = bytes }

    here : Some found ≡ Some landing → copy ≡ copies → IsAmong copies bytes packet (Delivered ttl site copy ∷ vs) landing
    here e c = subst (IsAmong copies bytes packet (Delivered ttl site copy ∷ vs)) (same_landing e) (record {
      at = 0;
      is = omega arith;
      there = omega arith;
      site = site;
      ttl = ttl;
      same_site = refl;
      verdict = ap (Delivered ttl site) c;
      same = refl;
    })
      where
        same_landing : Some found ≡ Some landing → found ≡ landing
        same_landing e = ap (λ o. elim o as (λ _. Landing) [ None ↦ found | Some z ↦ z ]) e
among copies bytes packet (Dropped cause node ∷ vs) landing h =
    further copies bytes packet (Dropped cause node) vs landing (among copies bytes (packet + 1) vs landing h)
among copies bytes packet (Flying link dir ∷ vs) landing h =
    further copies bytes packet (Flying link dir) vs landing (among copies bytes (packet + 1) vs landing h)

-- it is the newest copy
pub record HasLanded (packets : Packets) (landing : Landing) : Type 0 where
  pub delivered : packets.delivered ≡ Some landing.bytes
  pub there : landing.packet < length packets.verdicts
  pub site : SiteNo
  pub same_site : site.0 ≡ landing.site
  pub ttl : ℕ
  pub verdict : verdict_on packets landing.packet ≡ Delivered ttl site packets.copies

pub has_landed : (packets : Packets) (landing : Landing) → landed packets ≡ Some landing → HasLanded packets landing
has_landed packets landing h = by packets.delivered refl h
  where
    by : (o : Option (List ℕ)) → packets.delivered ≡ o → landed_by packets o ≡ Some landing → HasLanded packets landing
    by None e h = absurd (none h)
      where
        none : None ≡ Some landing → ⊥
        none h = cc
    by (Some bytes) e h =
        let found = among packets.copies bytes 0 packets.verdicts landing h in
        let at : found.at ≡ landing.packet = omega (arith, found.is) in record {
          delivered = e ∙ ap Some (sym found.same);
          there = omega (arith, found.there, at);
          site = found.site;
          same_site = found.same_site;
          ttl = found.ttl;
          verdict = ap (λ i. verdict_on packets i) (sym at) ∙ found.verdict;
        }

-- 2. An injection leaves the verdicts of before

module _ (t : Network) (es : List JournalEntry) (ps : List (List ℕ)) (tick : ℕ) (site : SiteNo) (number : ℕ) (b : List ℕ)
    (each : length ps ≡ injections es) where
  abbrev e : JournalEntry
  e = record { tick = tick; step = Inject site number; damaged = Undamaged }

  abbrev fs : List JournalEntry
  fs = es ++ e ∷ []

  abbrev qs : List (List ℕ)
  qs = ps ++ b ∷ []

  pub unmoved : (s : Sending) → IsSent es ps s → verdict_on (packets_of t fs qs) s.packet ≡ verdict_on (packets_of t es ps) s.packet
  unmoved s h =
      let all : Moves t es ps (es ++ e ∷ []) (ps ++ b ∷ []) = moves t es ps e b each in
      let sent : IsSent (es ++ e ∷ []) (ps ++ b ∷ []) s = all.grows.sent s h in
      let below : s.place < length es = within es s.place h.entry h.there in
      let same : Same s.packet (packets_at t (es ++ e ∷ []) (ps ++ b ∷ []) (length es)) (packets_at t (es ++ e ∷ []) (ps ++ b ∷ []) (suc (length es))) =
      subst (Same s.packet (packets_at t (es ++ e ∷ []) (ps ++ b ∷ []) (length es)))
      (sym (packets_step t (es ++ e ∷ []) (ps ++ b ∷ []) (length es) e (get_end es [] e)))
      (same_step t (clock_after e) (world_at t (es ++ e ∷ []) (length es)) (packets_at t (es ++ e ∷ []) (ps ++ b ∷ []) (length es)) e.step
      (bytes_of (ps ++ b ∷ []) (injections (take (length es) (es ++ e ∷ [])))) s.packet
      (in_verdicts t (es ++ e ∷ []) (ps ++ b ∷ []) s (length es) sent below)
      (omega (arith, sent_before (es ++ e ∷ []) (ps ++ b ∷ []) s (length es) sent below, (placed t (es ++ e ∷ []) (ps ++ b ∷ []) (length es)).paths)) tt) in
      ap (λ k. verdict_on k s.packet) (sym (packets_whole t (es ++ e ∷ []) (ps ++ b ∷ []) (suc (length es)) (omega (arith, length-append es (e ∷ [])))))
      ∙ same.verdict ∙ ap (λ k. verdict_on k s.packet) (packets_longer t es (e ∷ []) ps (b ∷ []) each)

-- as many verdicts as packets
pub as_many_verdicts : (t : Network) (es : List JournalEntry) (ps : List (List ℕ)) → length (packets_of t es ps).verdicts ≡ injections es
as_many_verdicts t es ps = (in_one_place t es ps).verdicts
