-- Each step keeps each packet in one place.
use Rattle.std.proofs.Common.{ℕ, zero, suc, ◌≡◌, ◌≢◌, ◌+◌, ◌-◌, ◌<◌, ◌≤◌, Bool, true, false, cond, List, [], ◌∷◌, ◌++◌, length, get_or, refl, arith, sym}
use Rattle.std.proofs.Common.{◌∙◌, ap, inl, inr, subst}
use Rattle.std.specs.Prelude.{◌==◌, Option, Some, None, slice_get, nat_le}
use Rattle.std.proofs.lemmas.List.{length-set, length_push}
use Rattle.std.proofs.lemmas.Grind.{common_steps}
use Rattle.std.proofs.lemmas.Bool.Decides.{eqb_tells, leb_tells}
use Rattle.mn_drops.specs.declared.drops.Rule.{Rule}
use Rattle.mn_drops.specs.declared.drops.Rule.TheVariants as rule
use Rattle.mn_topo.specs.Dir.{Dir}
use Rattle.mn_topo.specs.Dir.TheVariants.{Forth, Back}
use Rattle.mn_ipv4.specs.Header.{destination_of}
use Rattle.mn_topo.specs.Wiring.{links_of, sender}
use Rattle.mn_topo.specs.Network.{Network, wiring_of}
use Rattle.mn_topo.specs.declared.steps.Step.{Step}
use Rattle.mn_topo.specs.declared.steps.Step.TheVariants.{LinkDown, Inject, Carry, Lose, Tick}
use Rattle.mn_topo.specs.declared.steps.JournalEntry.{JournalEntry}
use Rattle.mn_ledger.specs.declared.verdict.Verdict.{Verdict}
use Rattle.mn_ledger.specs.declared.verdict.Verdict.TheVariants.{Delivered, Dropped, Flying}
use Rattle.mn_ledger.specs.Entry.{first_rule}
use Rattle.mn_ledger.specs.Tables.{put}
use Rattle.mn_ledger.specs.Places.{home_of}
use Rattle.mn_ledger.specs.World.{World}
use Rattle.mn_ledger.specs.Transport.{usable}
use Rattle.mn_ledger.specs.Held.{HeldRoute, best, held}
use Rattle.mn_ledger.specs.Packets.{Token, Packets, channel, flying_on, away_from, judged, drop_at, visited, deliver, hop_over, entry_rules, bound, stamped}
use Rattle.mn_ledger.specs.Packets.{route_by, enter_by, one_more, without_place, taken, is_attachment, leave, arrive, carry, fall, lose, cut_each, before_step}
use Rattle.mn_ledger.specs.Eligible.{eligible}
use Rattle.mn_ledger.specs.Packets.{moved, packets_after}
use Rattle.mn_ledger.specs.Verdicts.{one_if, injections, times_in, times_by, verdict_on, AreInOnePlace}
use Rattle.mn_ledger.specs.Time.{clock_after, is_overdue, expire_from, expire_over, timed_by, timed}
use Rattle.mn_ledger.specs.Ledger.{packets_from, packets_of, after, start, no_packets, next_of, left_by, injects}

-- what holds of both arms
pub arms : {A : Type 0} (P : A → Type 0) (b : Bool) (x y : A) → P x → P y → P (elim b [ true ↦ x | false ↦ y ])
arms P true x y p q = p
arms P false x y p q = q

times-append : (j : ℕ) (ks : List Token) (k : Token) → times_in j (ks ++ k ∷ []) ≡ times_in j ks + one_if (k.packet == j)
times-append j [] k = omega arith
times-append j (x ∷ xs) k = omega (arith, times-append j xs k)

times-without : (j : ℕ) (ks : List Token) (n : ℕ) (k : Token) → slice_get ks n ≡ Some k →
    times_in j ks ≡ times_in j (without_place n ks) + one_if (k.packet == j)
times-without j [] n k h = cc
times-without j (x ∷ xs) zero k h = let e : x ≡ k = cc in rw e (omega arith)
times-without j (x ∷ xs) (suc n) k h = omega (arith, times-without j xs n k h)

pub one_same : (n : ℕ) → one_if (n == n) ≡ 1
one_same n = grind (arith, common_steps)

one_other : (m n : ℕ) → m ≢ n → one_if (m == n) ≡ 0
one_other m n h = grind (arith, common_steps)

pub not_one : 1 ≤ 0 → ⊥
not_one p = omega arith

-- a verdict flies once at most
by_once : (v : Verdict) (c e : ℕ) → c ≢ e → 1 ≤ times_by v c → (times_by v c ≡ 1) × (times_by v e ≡ 0)
by_once (Flying l d) c e h p =
    elim (eqb_tells (channel l.0 d) c) [ inl q ↦ (ap one_if q.0, one_other (channel l.0 d) e (λ r. h (sym q.1 ∙ r))) | inr q ↦ absurd (not_one (rw q.0 at p)) ]
by_once (Delivered t s n) c e h p = absurd (not_one p)
by_once (Dropped r n) c e h p = absurd (not_one p)

by_one : (v : Verdict) (c : ℕ) → times_by v c ≤ 1
by_one (Flying l d) c = elim (eqb_tells (channel l.0 d) c) [ inl q ↦ rw q.0 (omega arith) | inr q ↦ rw q.0 (omega arith) ]
by_one (Delivered t s n) c = omega arith
by_one (Dropped r n) c = omega arith

-- the packet is on no channel, each other one is where its verdict says, and there are so many
pub record Loose (w : Packets) (p count : ℕ) : Type 0 where
  pub others : (j c : ℕ) → j ≢ p → times_in j (w.flying c) ≡ times_by (verdict_on w j) c
  pub none : (c : ℕ) → times_in p (w.flying c) ≡ 0
  pub within : p < length w.verdicts
  pub verdicts : length w.verdicts ≡ count
  pub paths : length w.paths ≡ count

pub judged_on : (w : Packets) (p : ℕ) (v : Verdict) (j : ℕ) → p < length w.verdicts → verdict_on (judged w p v) j ≡ cond (j == p) v (verdict_on w j)
judged_on w p v j h = grind (arith, common_steps, h)

judged_count : (w : Packets) (p : ℕ) (v : Verdict) → length (judged w p v).verdicts ≡ length w.verdicts
judged_count w p v = length-set w.verdicts p v

settled_places : (w : Packets) (p count : ℕ) (v : Verdict) → Loose w p count → ((c : ℕ) → times_by v c ≡ 0) →
    (j c : ℕ) → times_in j (w.flying c) ≡ times_by (verdict_on (judged w p v) j) c
settled_places w p count v k z j c =
    rw (judged_on w p v j k.within)
    (elim (eqb_tells j p) [
      | inl q ↦ rw (q.0, q.1) (k.none c ∙ sym (z c))
      | inr q ↦ rw q.0 (k.others j c q.1)
    ])

settle : (w : Packets) (p count : ℕ) (v : Verdict) → Loose w p count → ((c : ℕ) → times_by v c ≡ 0) → AreInOnePlace (judged w p v) count
settle w p count v k z = record { places = settled_places w p count v k z; verdicts = judged_count w p v ∙ k.verdicts; paths = k.paths }

times-put : (f : ℕ → List Token) (c : ℕ) (ks : List Token) (j b x : ℕ) → (b ≡ c → times_in j ks ≡ x) →
    (b ≢ c → times_in j (f b) ≡ x) → times_in j (put f c ks b) ≡ x
times-put f c ks j b x g h = elim (eqb_tells b c) [ inl q ↦ rw q.0 (g q.1) | inr q ↦ rw q.0 (h q.1) ]

past : (w : Packets) (j : ℕ) → length w.verdicts ≤ j → verdict_on w j ≡ Delivered 0 (record { 0 = 0 }) 0
past w j h = grind (arith, common_steps, h)

flown_places : (w : Packets) (p count : ℕ) (tok : Token) (l : ℕ) (d : Dir) → Loose w p count → tok.packet ≡ p →
    (j c : ℕ) →
    times_in j (put w.flying (channel l d) (w.flying (channel l d) ++ tok ∷ []) c) ≡ times_by
    (verdict_on (judged w p (Flying (record { 0 = l }) d)) j) c
flown_places w p count tok l d k e j c =
    rw (judged_on w p (Flying (record { 0 = l }) d) j k.within)
    (elim (eqb_tells j p) [
      | inl q ↦ rw q.0 (times-put w.flying (channel l d) _ j c _
          (λ r. rw (times-append j (w.flying (channel l d)) tok, r, one_same (channel l d), e, q.1, one_same p, k.none (channel l d)) (omega arith))
          (λ r. rw (one_other (channel l d) c (λ z. r (sym z)), q.1) (k.none c)))
      | inr q ↦ rw q.0 (times-put w.flying (channel l d) _ j c _
          (λ r. rw (times-append j (w.flying (channel l d)) tok, r, one_other tok.packet j (λ z. q.1 (sym z ∙ e)), k.others j (channel l d) q.1) (omega arith))
          (λ r. k.others j c q.1))
    ])

fly : (w : Packets) (p count : ℕ) (tok : Token) (l : ℕ) (d : Dir) → Loose w p count → tok.packet ≡ p →
    AreInOnePlace (record (judged w p (Flying (record { 0 = l }) d)) { flying = put w.flying (channel l d) (w.flying (channel l d) ++ tok ∷ []) }) count
fly w p count tok l d k e =
    record { places = flown_places w p count tok l d k e; verdicts = judged_count w p (Flying (record { 0 = l }) d) ∙ k.verdicts; paths = k.paths }

pub loosen : (w : Packets) (c n count : ℕ) (k : Token) → AreInOnePlace w count → slice_get (w.flying c) n ≡ Some k →
    Loose (record w { flying = put w.flying c (without_place n (w.flying c)) }) k.packet count
loosen w c n count k h e =
    let gone : times_in k.packet (w.flying c) ≡ times_in k.packet (without_place n (w.flying c)) + 1 =
    times-without k.packet (w.flying c) n k e ∙ ap (λ x. times_in k.packet (without_place n (w.flying c)) + x) (one_same k.packet) in
    let there : 1 ≤ times_by (verdict_on w k.packet) c = omega (arith, gone, h.places k.packet c) in
    record {
      others = λ j b q. times-put w.flying c _ j b _
          (λ r. rw r (omega (arith, times-without j (w.flying c) n k e, one_other k.packet j (λ z. q (sym z)), h.places j c)))
          (λ r. h.places j b);
      none = λ b. times-put w.flying c _ k.packet b _
          (λ r. omega (arith, gone, h.places k.packet c, by_one (verdict_on w k.packet) c))
          (λ r. h.places k.packet b ∙ (by_once (verdict_on w k.packet) c b (λ z. r (sym z)) there).1);
      within = elim (leb_tells (length w.verdicts) k.packet) [
        | inl q ↦ absurd (not_one (rw (past w k.packet q.1) at there))
        | inr q ↦ q.1
      ];
      verdicts = h.verdicts;
      paths = h.paths;
    }

more : (w : Packets) (v : Verdict) (j : ℕ) → j ≢ length w.verdicts → get_or (w.verdicts ++ v ∷ []) j (Delivered 0 (record { 0 = 0 }) 0) ≡ verdict_on w j
more w v j h = grind (arith, common_steps, h)

pub fresh : (w : Packets) (count edge : ℕ) → AreInOnePlace w count → Loose (one_more w edge) (length w.verdicts) (1 + count)
fresh w count edge h = record {
  others = λ j c r. rw (more w (Dropped rule.Lost (record { 0 = edge })) j r) (h.places j c);
  none = λ c. h.places (length w.verdicts) c ∙ ap (λ x. times_by x c) (past w (length w.verdicts) (omega arith));
  within = omega (arith, length_push w.verdicts (Dropped rule.Lost (record { 0 = edge })));
  verdicts = omega (arith, length_push w.verdicts (Dropped rule.Lost (record { 0 = edge })), h.verdicts);
  paths = omega (arith, length_push w.paths (edge ∷ []), h.paths);
}

-- a delivery or a drop
dropped : (w : Packets) (p count : ℕ) (r : Rule) (n : ℕ) → Loose w p count → AreInOnePlace (drop_at w p r n) count
dropped w p count r n k = settle w p count (Dropped r (record { 0 = n })) k (λ c. refl)

delivered : (w : Packets) (p count s ttl : ℕ) (b : List ℕ) → Loose w p count → AreInOnePlace (deliver w p s ttl b) count
delivered w p count s ttl b k =
    let h = settle w p count (Delivered ttl (record { 0 = s }) (w.copies + 1)) k (λ c. refl) in
    record { places = h.places; verdicts = h.verdicts; paths = h.paths }

hopped : (t : Network) (w : Packets) (k : Token) (count x : ℕ) (r : Rule) (o : Option (ℕ × ℕ)) → Loose w k.packet count →
    AreInOnePlace (hop_over t w k x r o) count
hopped t w k count x r None l = dropped w k.packet count r x l
hopped t w k count x r (Some h) l = fly w k.packet count k h.1 (away_from t h.1 x) l refl

routed : (t : Network) (v : World) (w : Packets) (j count : ℕ) (b : List ℕ) (e : ℕ) (o : Option HeldRoute) → Loose w j count →
    AreInOnePlace (route_by t v w j b e o) count
routed t v w j count b e None l = dropped w j count rule.NoRoute e l
routed t v w j count b e (Some route) l =
    arms (λ x. AreInOnePlace x count) (route.edge == e) _ _ (delivered w j count route.site _ b l)
    (hopped t w (stamped w (bound j route b)) count e rule.NoLsp (usable t v.config v.views v.sessions e route.edge) l)

entered : (t : Network) (v : World) (w : Packets) (j count : ℕ) (b : List ℕ) (e vrf : ℕ) (o : Option Rule) → Loose w j count →
    AreInOnePlace (enter_by t v w j b e vrf o) count
entered t v w j count b e vrf (Some cause) l = dropped w j count cause e l
entered t v w j count b e vrf None l = routed t v w j count b e (best (eligible t v e vrf (destination_of b)) (destination_of b)) l

left : (v : World) (w : Packets) (k : Token) (count y : ℕ) → Loose w k.packet count → AreInOnePlace (leave v w k y) count
left v w k count y l =
    arms (λ x. AreInOnePlace x count) (is_attachment (v.config.attached k.site) k.attachment) _ _ (delivered w k.packet count k.site _ k.bytes l)
    (dropped w k.packet count rule.SiteGone y l)

arrived : (t : Network) (v : World) (w : Packets) (k : Token) (count y : ℕ) → Loose w k.packet count → AreInOnePlace (arrive t v w k y) count
arrived t v w k count y l =
    arms (λ x. AreInOnePlace x count) (nat_le k.ttl 1) _ _ (dropped w k.packet count rule.TtlExpired y l)
    (arms (λ x. AreInOnePlace x count) (y == k.edge) _ _ (left v w k count y l)
    (hopped t w (stamped w (record k { ttl = k.ttl - 1 })) count y rule.NoEntry (usable t v.config v.views v.sessions y k.edge) l))

visit : (w : Packets) (p q n count : ℕ) → Loose w p count → Loose (visited w q n) p count
visit w p q n count l = record { others = l.others; none = l.none; within = l.within; verdicts = l.verdicts; paths = length-set w.paths q _ ∙ l.paths }

-- nothing is there: nothing is taken
without_none : (n : ℕ) (ks : List Token) → slice_get ks n ≡ None → without_place n ks ≡ ks
without_none n [] h = refl
without_none zero (k ∷ ks) h = cc
without_none (suc n) (k ∷ ks) h = ap (λ x. k ∷ x) (without_none n ks h)

untaken : (w : Packets) (l : ℕ) (d : Dir) (n count : ℕ) → AreInOnePlace w count → slice_get (flying_on w l d) n ≡ None → AreInOnePlace (taken w l d n) count
untaken w l d n count h e = record {
  places = λ j c. times-put w.flying (channel l d) _ j c _
      (λ r. rw (without_none n (flying_on w l d) e, r) (h.places j (channel l d)))
      (λ r. h.places j c);
  verdicts = h.verdicts;
  paths = h.paths;
}

carried : (t : Network) (v : World) (w : Packets) (l : ℕ) (d : Dir) (n count y : ℕ) (o : Option Token) → slice_get (flying_on w l d) n ≡ o →
    AreInOnePlace w count → AreInOnePlace (carry t v (taken w l d n) y o) count
carried t v w l d n count y None e h = untaken w l d n count h e
carried t v w l d n count y (Some k) e h = arrived t v _ k count y (visit _ k.packet k.packet y count (loosen w (channel l d) n count k h e))

pub fallen : (cause : Rule) (w : Packets) (l : ℕ) (d : Dir) (n count y : ℕ) (o : Option Token) → slice_get (flying_on w l d) n ≡ o → AreInOnePlace w count →
    AreInOnePlace (fall cause (taken w l d n) y o) count
fallen cause w l d n count y None e h = untaken w l d n count h e
fallen cause w l d n count y (Some k) e h = dropped _ k.packet count cause y (loosen w (channel l d) n count k h e)

-- time goes on
pub expired_from : (t : Network) (clock l : ℕ) (d : Dir) (ks : List Token) (w : Packets) (n count : ℕ) → AreInOnePlace w count →
    AreInOnePlace (expire_from t clock l d n ks w) count
expired_from t clock l d [] w n count h = h
expired_from t clock l d (k ∷ ks) w n count h =
    arms (λ x. AreInOnePlace x count) (is_overdue t clock l k) _ _
    (expired_from t clock l d ks _ n count (fallen rule.Overdue w l d n count (sender (wiring_of t) l d) (slice_get (flying_on w l d) n) refl h))
    (expired_from t clock l d ks w (n + 1) count h)

expired_over : (t : Network) (clock : ℕ) (ls : List ℕ) (w : Packets) (count : ℕ) → AreInOnePlace w count → AreInOnePlace (expire_over t clock ls w) count
expired_over t clock [] w count h = h
expired_over t clock (l ∷ ls) w count h =
    expired_over t clock ls _ count (expired_from t clock l Back _ _ 0 count (expired_from t clock l Forth _ w 0 count h))

timed_kept : (t : Network) (clock : ℕ) (s : Step) (w : Packets) (count : ℕ) → AreInOnePlace w count → AreInOnePlace (timed_by t clock s w) count
timed_kept t clock (Tick n) w count h =
    expired_over t clock (links_of (wiring_of t)) (record w { clock = clock }) count (record { places = h.places; verdicts = h.verdicts; paths = h.paths })
timed_kept t clock _ w count h = record { places = h.places; verdicts = h.verdicts; paths = h.paths }

pub timed_places : (t : Network) (e : JournalEntry) (w : Packets) (count : ℕ) → AreInOnePlace w count → AreInOnePlace (timed t e w) count
timed_places t e w count h = timed_kept t (clock_after e) e.step w count h

lost : (w : Packets) (l : ℕ) (d : Dir) (n count y : ℕ) (o : Option Token) → slice_get (flying_on w l d) n ≡ o → AreInOnePlace w count →
    AreInOnePlace (lose (taken w l d n) y o) count
lost w l d n count y o e h = fallen rule.Lost w l d n count y o e h

put_here : (f : ℕ → List Token) (c : ℕ) (ks : List Token) → put f c ks c ≡ ks
put_here f c ks = grind (arith, common_steps)

cut_kept : (ks : List Token) (w : Packets) (c n count : ℕ) → w.flying c ≡ ks → AreInOnePlace w count → AreInOnePlace (cut_each w c n ks) count
cut_kept [] w c n count e h = h
cut_kept (k ∷ ks) w c n count e h =
    let there : slice_get (w.flying c) 0 ≡ Some k = rw e refl in
    let l : Loose (record w { flying = put w.flying c ks }) k.packet count = rw e at (loosen w c 0 count k h there) in
    cut_kept ks (drop_at (record w { flying = put w.flying c ks }) k.packet rule.LinkCut n) c n count (put_here w.flying c ks)
    (dropped (record w { flying = put w.flying c ks }) k.packet count rule.LinkCut n l)

pub unmarked : (w : Packets) (count : ℕ) → AreInOnePlace w count → AreInOnePlace (before_step w) count
unmarked w count h = record { places = h.places; verdicts = h.verdicts; paths = h.paths }

-- none more
none_more : (w : Packets) (count : ℕ) → AreInOnePlace w count → AreInOnePlace w (0 + count)
none_more w count h = subst (AreInOnePlace w) (omega arith) h

moved_kept : (t : Network) (v : World) (w : Packets) (s : Step) (b : List ℕ) (count : ℕ) → AreInOnePlace w count →
    AreInOnePlace (moved t v w s b) (one_if (injects s) + count)
moved_kept t v w (Inject r n) b count h =
    entered t v _ (length w.verdicts) _ b _ _ (first_rule (entry_rules (v.config.attached r.0) b)) (fresh w count (home_of t r.0) h)
moved_kept t v w (Carry l d n) b count h = none_more _ _ (carried t v w l.0 d n count _ _ refl h)
moved_kept t v w (Lose l d n) b count h = none_more _ _ (lost w l.0 d n count _ _ refl h)
moved_kept t v w (LinkDown l) b count h = none_more _ _ (cut_kept _ _ _ _ count refl (cut_kept _ _ _ _ count refl h))
moved_kept t v w _ b count h = none_more _ _ h

pub stepped : (t : Network) (v : World) (w : Packets) (s : Step) (b : List ℕ) (count : ℕ) → AreInOnePlace w count →
    AreInOnePlace (packets_after t v w s b) (one_if (injects s) + count)
unfolding packets_after
stepped t v w s b count h = moved_kept t v (before_step w) s b count (unmarked w count h)

run_kept : (t : Network) (v : World) (w : Packets) (es : List JournalEntry) (ps : List (List ℕ)) (count : ℕ) → AreInOnePlace w count →
    AreInOnePlace (packets_from t v w es ps) (injections es + count)
run_kept t v w [] ps count h = none_more _ _ h
run_kept t v w (e ∷ es) ps count h =
    subst (AreInOnePlace (packets_from t v w (e ∷ es) ps)) (omega arith)
    (run_kept t (after t v e.step) _ es (left_by e.step ps) (one_if (injects e.step) + count)
    (stepped t (after t v e.step) (timed t e w) e.step (next_of ps) count (timed_places t e w count h)))

pub in_one_place : (t : Network) (es : List JournalEntry) (ps : List (List ℕ)) → AreInOnePlace (packets_of t es ps) (injections es)
in_one_place t es ps =
    subst (AreInOnePlace (packets_of t es ps)) (omega arith)
    (run_kept t (start t) no_packets es ps 0 (record { places = λ j c. refl; verdicts = refl; paths = refl }))
