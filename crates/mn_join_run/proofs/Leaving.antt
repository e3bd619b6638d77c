-- One step more of one network: what it delivers is its newest copy, and comes out where the site isn't joined.
use Rattle.std.proofs.Common.{ℕ, zero, suc, ◌≡◌, ◌+◌, ◌-◌, ◌<◌, ◌≤◌, ◌⊎◌, inl, inr, Bool, true, false, cond, List, [], ◌∷◌, ◌++◌, length, take, slice_index_or}
use Rattle.std.proofs.Common.{Option, Some, None, refl, arith, sym, ◌∙◌, ap, subst, append-nil, append_assoc}
use Rattle.std.specs.Prelude.{slice_get, ◌==◌}
use Rattle.std.proofs.lemmas.Bool.Decides.{eqb_tells, leb_tells}
use Rattle.std.proofs.lemmas.List.{length-append}
use Rattle.mn_base.proofs.Bools.{same_numbers, same_test}
use Rattle.mn_base.specs.declared.numbers.SiteNo.{SiteNo}
use Rattle.mn_topo.specs.Network.{Network}
use Rattle.mn_topo.specs.declared.steps.Step.{Step}
use Rattle.mn_topo.specs.declared.steps.Step.TheVariants.{Tick}
use Rattle.mn_topo.specs.declared.steps.JournalEntry.{JournalEntry}
use Rattle.mn_ledger.specs.declared.verdict.Verdict.{Verdict}
use Rattle.mn_ledger.specs.declared.verdict.Verdict.TheVariants.{Delivered, Dropped, Flying}
use Rattle.mn_ledger.specs.Ledger.{injects, packets_of, packets_by, after, world_of}
use Rattle.mn_ledger.specs.OneMore.{added, with_packet}
use Rattle.mn_ledger.specs.Packets.{Packets, packets_after}
use Rattle.mn_ledger.specs.Time.{ticks_in}
use Rattle.mn_ledger.specs.Verdicts.{injections, verdict_on}
use Rattle.mn_ledger.specs.World.{World}
use Rattle.mn_ledger.proofs.More.{goes_on}
use Rattle.mn_ledger_laws.specs.Accounts.{Sending, IsSent, is_copy}
use Rattle.mn_ledger_laws.specs.Deliveries.{Delivery, delivery_at, deliveries_of}
use Rattle.mn_ledger_laws.proofs.Adding.{adds_to_its_lists}
use Rattle.mn_ledger_laws.proofs.Copies.{numbered, as_many}
use Rattle.mn_join_laws.specs.declared.leg.Which.{Which}
use Rattle.mn_join_laws.specs.Pairing.{Pairing, network, Side, Landing, landed, landed_by, landed_as}
use Rattle.mn_join_laws.specs.Course.{Exit}
use Rattle.mn_join_laws.proofs.Growing.{Moves, moves, within}
use Rattle.mn_join_laws.proofs.Landing.{as_many_verdicts}
use Rattle.mn_join_run.specs.Leaving.{exit_of, leaving_from, leaving_of}

-- 1. The packet that was delivered as a copy

abbrev pub at_none : Verdict
at_none = Delivered 0 (record { 0 = 0 }) 0

-- one of these verdicts, and no other, is that copy
pub record IsOnly (vs : List Verdict) (c : ℕ) (j : ℕ) (ttl : ℕ) (site : SiteNo) : Type 0 where
  pub there : j < length vs
  pub is : slice_index_or vs j at_none ≡ Delivered ttl site c
  pub only : (i t : ℕ) (s : SiteNo) → i < length vs → slice_index_or vs i at_none ≡ Delivered t s c → i ≡ j

abbrev found_as : ℕ → ℕ → SiteNo → List ℕ → Landing
found_as start j site bytes = record { packet = start + j; site = site.0; bytes = bytes }

later_only : (v : Verdict) (vs : List Verdict) (c j ttl : ℕ) (site : SiteNo) → IsOnly (v ∷ vs) c (suc j) ttl site → IsOnly vs c j ttl site
later_only v vs c j ttl site h = record {
  there = omega (arith, h.there);
  is = h.is;
  only = λ i t s below e. one_less i (h.only (suc i) t s (omega (arith, below)) e);
}
  where
    one_less : (i : ℕ) → suc i ≡ suc j → i ≡ j
    one_less i e = omega (arith, e)

-- one place further on
further : (c : ℕ) (bytes : List ℕ) (start : ℕ) (vs : List Verdict) (j : ℕ) (site : SiteNo)
    → landed_as c bytes (start + 1) vs ≡ Some (found_as (start + 1) j site bytes) → landed_as c bytes (start + 1) vs ≡ Some (found_as start (suc j) site bytes)
further c bytes start vs j site h = h ∙ ap (λ n. Some (record { packet = n; site = site.0; bytes = bytes })) (one start j)
  where
    one : (m n : ℕ) → (m + 1) + n ≡ m + suc n
    one m n = omega arith

finds : (c : ℕ) (bytes : List ℕ) (start : ℕ) (vs : List Verdict) (j ttl : ℕ) (site : SiteNo) → IsOnly vs c j ttl site
    → landed_as c bytes start vs ≡ Some (found_as start j site bytes)
finds c bytes start [] j ttl site h = absurd (none j h.there)
  where
    none : (n : ℕ) → n < 0 → ⊥
    none n h = omega (arith, h)
finds c bytes start (Delivered t s copy ∷ vs) zero ttl site h =
    ap (λ b. cond b (Some (record { packet = start; site = s.0; bytes = bytes })) (landed_as c bytes (start + 1) vs))
    (ap (λ n. n == c) (copy_is h.is) ∙ same_test c)
    ∙ ap Some (ap (λ n. record { packet = n; site = s.0; bytes = bytes }) (plain start) ∙ ap (λ (x : SiteNo). found_as start 0 x bytes) (site_is h.is))
  where
    plain : (n : ℕ) → n ≡ n + 0
    plain n = omega arith

    copy_is : Delivered t s copy ≡ Delivered ttl site c → copy ≡ c
    copy_is e = cc

    site_is : Delivered t s copy ≡ Delivered ttl site c → s ≡ site
    site_is e = cc
finds c bytes start (Delivered t s copy ∷ vs) (suc j) ttl site h = elim (eqb_tells copy c) [
  | inl q ↦ absurd (first (h.only 0 t s (omega (arith, h.there)) (ap (Delivered t s) q.1)))
  | inr q ↦ ap (λ b. cond b (Some (record { packet = start; site = s.0; bytes = bytes })) (landed_as c bytes (start + 1) vs)) q.0
      ∙ further c bytes start vs j site (finds c bytes (start + 1) vs j ttl site (later_only (Delivered t s copy) vs c j ttl site h))
]
  where
    first : 0 ≡ suc j → ⊥
    first e = omega (arith, e)
finds c bytes start (Dropped cause node ∷ vs) zero ttl site h = absurd (clash h.is)
  where
    clash : Dropped cause node ≡ Delivered ttl site c → ⊥
    clash e = cc
finds c bytes start (Dropped cause node ∷ vs) (suc j) ttl site h =
    further c bytes start vs j site (finds c bytes (start + 1) vs j ttl site (later_only (Dropped cause node) vs c j ttl site h))
finds c bytes start (Flying link dir ∷ vs) zero ttl site h = absurd (clash h.is)
  where
    clash : Flying link dir ≡ Delivered ttl site c → ⊥
    clash e = cc
finds c bytes start (Flying link dir ∷ vs) (suc j) ttl site h =
    further c bytes start vs j site (finds c bytes (start + 1) vs j ttl site (later_only (Flying link dir) vs c j ttl site h))

-- a copy is a delivery
delivered_as : (c : ℕ) (v : Verdict) → is_copy c v ≡ true → (ttl : ℕ) × (site : SiteNo) × (v ≡ Delivered ttl site c)
delivered_as c (Delivered ttl site copy) h = (ttl, site, ap (Delivered ttl site) (same_numbers copy c h))
delivered_as c (Dropped cause node) h = absurd (let clash : false ≡ true = h in cc)
delivered_as c (Flying link dir) h = absurd (let clash : false ≡ true = h in cc)

module _ (t : Network) (es : List JournalEntry) (ps : List (List ℕ)) where
  pub only_one : (j ttl : ℕ) (site : SiteNo) (c : ℕ) → j < length (packets_of t es ps).verdicts → verdict_on (packets_of t es ps) j ≡ Delivered ttl site c
      → IsOnly (packets_of t es ps).verdicts c j ttl site
  only_one j ttl site c there is = record {
    there = there;
    is = is;
    only = λ i x s below e. (numbered t es ps).once c i j below there (ap (is_copy c) e ∙ same_test c) (ap (is_copy c) is ∙ same_test c);
  }

  -- the copy of a number that there is
  pub record HasCopy (c : ℕ) : Type 0 where
    pub packet : ℕ
    pub there : packet < length (packets_of t es ps).verdicts
    pub ttl : ℕ
    pub site : SiteNo
    pub is : verdict_on (packets_of t es ps) packet ≡ Delivered ttl site c

  pub has_copy : (c : ℕ) → 1 ≤ c → c ≤ (packets_of t es ps).copies → HasCopy c
  has_copy c low high =
      let found = (numbered t es ps).each c low high in
      let by = delivered_as c (verdict_on (packets_of t es ps) found.0) found.2 in
      record { packet = found.0; there = found.1; ttl = by.0; site = by.1; is = by.2 }

  -- what the last step delivered is the newest copy
  pub newest_landed : (j ttl : ℕ) (site : SiteNo) (bytes : List ℕ) → j < length (packets_of t es ps).verdicts
      → verdict_on (packets_of t es ps) j ≡ Delivered ttl site (packets_of t es ps).copies → (packets_of t es ps).delivered ≡ Some bytes
      → landed (packets_of t es ps) ≡ Some (record { packet = j; site = site.0; bytes = bytes })
  newest_landed j ttl site bytes there is delivered =
      ap (landed_by (packets_of t es ps)) delivered
      ∙ finds (packets_of t es ps).copies bytes 0 (packets_of t es ps).verdicts j ttl site (only_one j ttl site (packets_of t es ps).copies there is)
      ∙ ap (λ n. Some (record { packet = n; site = site.0; bytes = bytes })) (none j)
    where
      none : (n : ℕ) → 0 + n ≡ n
      none n = omega arith

-- 2. The list of what leaves

module _ (pairing : Pairing) (w : Which) where
  same_leaving : (vs ws : List Verdict) (c : ℕ) (ds : List Delivery)
      → ((n : ℕ) (bytes : List ℕ) → c ≤ n → n < c + length ds → landed_as n bytes 0 ws ≡ landed_as n bytes 0 vs)
      → leaving_from pairing w ws c ds ≡ leaving_from pairing w vs c ds
  same_leaving vs ws c [] h = refl
  same_leaving vs ws c (d ∷ ds) h =
      ap (λ o. exit_of pairing w d.tick o ++ leaving_from pairing w ws (c + 1) ds) (h c d.bytes (omega arith) (omega arith))
      ∙ ap (λ l. exit_of pairing w d.tick (landed_as c d.bytes 0 vs) ++ l)
      (same_leaving vs ws (c + 1) ds (λ n bytes low high. h n bytes (omega (arith, low)) (omega (arith, high))))

  leaving_more : (vs : List Verdict) (c : ℕ) (ds : List Delivery) (d : Delivery)
      → leaving_from pairing w vs c (ds ++ d ∷ []) ≡ leaving_from pairing w vs c ds ++ exit_of pairing w d.tick (landed_as (c + length ds) d.bytes 0 vs)
  leaving_more vs c [] d =
      append-nil (exit_of pairing w d.tick (landed_as c d.bytes 0 vs))
      ∙ ap (λ n. exit_of pairing w d.tick (landed_as n d.bytes 0 vs)) (plain c)
    where
      plain : (n : ℕ) → n ≡ n + 0
      plain n = omega arith
  leaving_more vs c (x ∷ ds) d =
      ap (λ l. exit_of pairing w x.tick (landed_as c x.bytes 0 vs) ++ l) (leaving_more vs (c + 1) ds d)
      ∙ sym (append_assoc (exit_of pairing w x.tick (landed_as c x.bytes 0 vs)) (leaving_from pairing w vs (c + 1) ds)
      (exit_of pairing w d.tick (landed_as ((c + 1) + length ds) d.bytes 0 vs)))
      ∙ ap (λ n. (exit_of pairing w x.tick (landed_as c x.bytes 0 vs) ++ leaving_from pairing w vs (c + 1) ds)
      ++ exit_of pairing w d.tick (landed_as n d.bytes 0 vs)) (one c (length ds))
    where
      one : (m n : ℕ) → (m + 1) + n ≡ m + suc n
      one m n = omega arith

-- 3. One step more

-- only a step that takes no time delivers
no_time : (t : Network) (w : World) (k : Packets) (s : Step) (b x : List ℕ) → (packets_after t w k s b).delivered ≡ Some x → ticks_in s ≡ 0
unfolding packets_after
no_time t w k (Tick n) b x h = absurd (let clash : None ≡ Some x = h in cc)
no_time t w k _ b x h = refl

-- of an injection before a step
abbrev pub WasInjected : Side → ℕ → Type 0
WasInjected old j = (s : Sending) × IsSent old.past.entries old.inputs s × (s.packet ≡ j)

abbrev pub side_after : Side → JournalEntry → List ℕ → List ℕ → Side
side_after old e b owners = record {
  past = record { clock = old.past.clock + ticks_in e.step; entries = old.past.entries ++ e ∷ [] };
  inputs = with_packet e.step b old.inputs;
  owners = owners;
}

module _ (pairing : Pairing) (w : Which) (old : Side) (e : JournalEntry) (b owners : List ℕ) (tick : e.tick ≡ old.past.clock)
    (each : length old.inputs ≡ injections old.past.entries) (sent : (j : ℕ) → j < length old.inputs → WasInjected old j) where
  abbrev t : Network
  t = network pairing w

  abbrev es : List JournalEntry
  es = old.past.entries

  abbrev ps : List (List ℕ)
  ps = old.inputs

  abbrev now : Side
  now = side_after old e b owners

  abbrev before : Packets
  before = packets_of t es ps

  abbrev then : Packets
  then = packets_of t (es ++ e ∷ []) (with_packet e.step b ps)

  all : Moves t es ps (es ++ e ∷ []) (with_packet e.step b ps)
  all = moves t es ps e b each

  listed : deliveries_of t (es ++ e ∷ []) (with_packet e.step b ps) ≡ deliveries_of t es ps ++ delivery_at e.tick then.delivered
  listed = (adds_to_its_lists t es ps e b each).deliveries
      ∙ ap (λ (k : Packets). deliveries_of t es ps ++ delivery_at e.tick k.delivered) (sym (goes_on t es ps e b each).packets)

  stays : (j ttl : ℕ) (site : SiteNo) (c : ℕ) → j < length ps → verdict_on before j ≡ Delivered ttl site c → verdict_on then j ≡ Delivered ttl site c
  stays j ttl site c below v =
      let s = sent j below in
      ap (verdict_on then) (sym s.2) ∙ all.grows.stays s.0 site ttl c s.1 (ap (verdict_on before) s.2 ∙ v)

  grown : injections es ≤ injections (es ++ e ∷ [])
  grown = by es
    where
      by : (xs : List JournalEntry) → injections xs ≤ injections (xs ++ e ∷ [])
      by [] = omega arith
      by (x ∷ xs) = omega (arith, by xs)

  -- a packet of before is one now
  is_one : (j : ℕ) → j < length before.verdicts → j < length then.verdicts
  is_one j below = omega (arith, below, grown, as_many_verdicts t es ps, as_many_verdicts t (es ++ e ∷ []) (with_packet e.step b ps))

  same_copy : (c : ℕ) (bytes : List ℕ) → 1 ≤ c → c ≤ before.copies → landed_as c bytes 0 then.verdicts ≡ landed_as c bytes 0 before.verdicts
  same_copy c bytes low high =
      let h = has_copy t es ps c low high in
      finds c bytes 0 then.verdicts h.packet h.ttl h.site
      (only_one t (es ++ e ∷ []) (with_packet e.step b ps) h.packet h.ttl h.site c (is_one h.packet h.there)
      (stays h.packet h.ttl h.site c (omega (arith, h.there, each, as_many_verdicts t es ps)) h.is))
      ∙ sym (finds c bytes 0 before.verdicts h.packet h.ttl h.site (only_one t es ps h.packet h.ttl h.site c h.there h.is))

  same_before : leaving_from pairing w then.verdicts 1 (deliveries_of t es ps) ≡ leaving_of pairing w old
  same_before =
      same_leaving pairing w before.verdicts then.verdicts 1 (deliveries_of t es ps)
      (λ n bytes low high. same_copy n bytes low (omega (arith, high, as_many t es ps)))

  many : (o : Option (List ℕ)) → then.delivered ≡ o → then.copies ≡ before.copies + length (delivery_at e.tick o)
  many o is = omega (
    arith,
    as_many t es ps,
    as_many t (es ++ e ∷ []) (with_packet e.step b ps),
    ap length (listed ∙ ap (λ d. deliveries_of t es ps ++ delivery_at e.tick d) is),
    length-append (deliveries_of t es ps) (delivery_at e.tick o),
  )

  clock_is : (bytes : List ℕ) → then.delivered ≡ Some bytes → e.tick ≡ now.past.clock
  clock_is bytes d =
      let still : ticks_in e.step ≡ 0 =
      no_time t (after t (world_of t es) e.step) _ e.step b bytes
      (ap (λ (k : Packets). k.delivered) (sym (goes_on t es ps e b each).packets) ∙ d) in
      omega (arith, tick, still)

  -- what leaves then is what left before, and what the step delivers at a site that isn't joined
  pub leaves_more : leaving_of pairing w now ≡ leaving_of pairing w old ++ exit_of pairing w now.past.clock (landed then)
  leaves_more = by then.delivered refl
    where
      by : (o : Option (List ℕ)) → then.delivered ≡ o
          → leaving_of pairing w now ≡ leaving_of pairing w old ++ exit_of pairing w now.past.clock (landed then)
      by None d =
          ap (leaving_from pairing w then.verdicts 1) (listed ∙ ap (λ o. deliveries_of t es ps ++ delivery_at e.tick o) d ∙ append-nil (deliveries_of t es ps))
          ∙ same_before ∙ sym (append-nil (leaving_of pairing w old))
          ∙ ap (λ o. leaving_of pairing w old ++ exit_of pairing w now.past.clock (landed_by then o)) (sym d)
      by (Some bytes) d =
          let copy : 1 + length (deliveries_of t es ps) ≡ then.copies = omega (arith, as_many t es ps, many (Some bytes) d) in
          ap (leaving_from pairing w then.verdicts 1) (listed ∙ ap (λ o. deliveries_of t es ps ++ delivery_at e.tick o) d)
          ∙ leaving_more pairing w then.verdicts 1 (deliveries_of t es ps) (record { tick = e.tick; bytes = bytes })
          ∙ ap (λ l. l ++ exit_of pairing w e.tick (landed_as (1 + length (deliveries_of t es ps)) bytes 0 then.verdicts)) same_before
          ∙ ap (λ n. leaving_of pairing w old ++ exit_of pairing w e.tick (landed_as n bytes 0 then.verdicts)) copy
          ∙ ap (λ n. leaving_of pairing w old ++ exit_of pairing w n (landed_as then.copies bytes 0 then.verdicts)) (clock_is bytes d)
          ∙ ap (λ o. leaving_of pairing w old ++ exit_of pairing w now.past.clock (landed_by then o)) (sym d)

  abbrev Was : ℕ → ℕ → SiteNo → ℕ → Type 0
  Was j ttl site c = (j < length ps) × (verdict_on before j ≡ Delivered ttl site c)

  -- a packet that is delivered then was so before, or is the newest copy
  pub newly : (j ttl : ℕ) (site : SiteNo) (c : ℕ) → j < length then.verdicts → verdict_on then j ≡ Delivered ttl site c
      → Was j ttl site c ⊎ ((c ≡ then.copies) × (bytes : List ℕ) × (then.delivered ≡ Some bytes))
  newly j ttl site c there is = by then.delivered refl
    where
      bounds : (1 ≤ c) × (c ≤ then.copies)
      bounds = (numbered t (es ++ e ∷ []) (with_packet e.step b ps)).upper c j there (ap (is_copy c) is ∙ same_test c)

      earlier : c ≤ before.copies → Was j ttl site c
      earlier high =
          let h = has_copy t es ps c bounds.0 high in
          let below : h.packet < length ps = omega (arith, h.there, each, as_many_verdicts t es ps) in
          let old = stays h.packet h.ttl h.site c below h.is in
          let same : h.packet ≡ j =
          (numbered t (es ++ e ∷ []) (with_packet e.step b ps)).once c h.packet j (is_one h.packet h.there) there (ap (is_copy c) old ∙ same_test c)
          (ap (is_copy c) is ∙ same_test c) in (
            subst (λ n. n < length ps) same below,
            ap (verdict_on before) (sym same) ∙ h.is ∙ sym old ∙ ap (verdict_on then) same ∙ is,
          )

      by : (o : Option (List ℕ)) → then.delivered ≡ o → Was j ttl site c ⊎ ((c ≡ then.copies) × (bytes : List ℕ) × (then.delivered ≡ Some bytes))
      by None d = inl (earlier (omega (arith, bounds.1, many None d)))
      by (Some bytes) d = elim (leb_tells c before.copies) [
        | inl q ↦ inl (earlier q.1)
        | inr q ↦ inr (omega (arith, bounds.1, many (Some bytes) d, q.1), bytes, d)
      ]

  -- which is none of before
  pub not_old : (j ttl : ℕ) (site : SiteNo) (bytes : List ℕ) → j < length ps → verdict_on before j ≡ Delivered ttl site then.copies
      → then.delivered ≡ Some bytes → ⊥
  not_old j ttl site bytes below is d =
      past before.copies then.copies (many (Some bytes) d)
      ((numbered t es ps).upper then.copies j (omega (arith, below, each, as_many_verdicts t es ps)) (ap (is_copy then.copies) is ∙ same_test then.copies)).1
    where
      past : (m n : ℕ) → n ≡ m + 1 → n ≤ m → ⊥
      past m n e h = omega (arith, e, h)
