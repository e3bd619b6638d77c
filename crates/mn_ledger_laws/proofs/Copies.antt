-- Deliveries are numbered from 1, each once; and as many are listed. It holds of every journal, lawful or not.
use Rattle.std.proofs.Common.{ℕ, zero, suc, ◌≡◌, ◌≢◌, ◌+◌, ◌-◌, ◌<◌, ◌≤◌, ◌⊎◌, inl, inr, true, false, List, [], ◌∷◌, ◌++◌, length, take, refl, arith, sym}
use Rattle.std.proofs.Common.{◌∙◌, ap, subst, Option, Some, None}
use Rattle.std.specs.Prelude.{◌==◌, slice_get}
use Rattle.std.proofs.lemmas.Bool.Decides.{eqb_tells, leb_tells}
use Rattle.std.proofs.lemmas.List.{length-append, length-set, length_push}
use Rattle.std.proofs.lemmas.Option.{same_Some}
use Rattle.mn_base.proofs.Bools.{none_below, no, two_ways}
use Rattle.mn_drops.specs.declared.drops.Rule.{Rule}
use Rattle.mn_drops.specs.declared.drops.Rule.TheVariants as rule
use Rattle.mn_wiring.specs.declared.links.Dir.{Dir}
use Rattle.mn_wiring.specs.declared.links.Dir.TheVariants.{Forth, Back}
use Rattle.mn_wiring.specs.Wiring.{sender, receiver}
use Rattle.mn_topo.specs.Network.{Network, wiring_of}
use Rattle.mn_topo.specs.declared.steps.Step.{Step}
use Rattle.mn_topo.specs.declared.steps.Step.TheVariants.{LinkDown, Inject, Carry, Lose, Tick}
use Rattle.mn_topo.specs.declared.steps.JournalEntry.{JournalEntry}
use Rattle.mn_ledger.specs.declared.verdict.Verdict.{Verdict}
use Rattle.mn_ledger.specs.declared.verdict.Verdict.TheVariants.{Delivered, Dropped, Flying}
use Rattle.mn_ledger.specs.Entry.{first_rule}
use Rattle.mn_ledger.specs.Tables.{put}
use Rattle.mn_ledger.specs.Places.{home_of, vrf_of}
use Rattle.mn_ledger.specs.World.{World}
use Rattle.mn_ledger.specs.Packets.{Token, Packets, channel, flying_on, judged, drop_at, visited, deliver, hop_over, bound, entry_rules, enter_by, one_more}
use Rattle.mn_ledger.specs.Packets.{taken, carry, lose, cut_each, cut, before_step, packets_after, stamped}
use Rattle.mn_ledger.specs.Ledger.{after, start, no_packets, injects, next_of, left_by, packets_from, packets_of}
use Rattle.mn_ledger.specs.Verdicts.{one_if, verdict_on, AreInOnePlace}
use Rattle.mn_ledger.proofs.Members.{In}
use Rattle.mn_ledger.proofs.OnePlace.{loosen, stepped, timed_places}
use Rattle.mn_ledger.proofs.Peers.{same_numbers, same_test, two_ways}
use Rattle.mn_ledger_laws.specs.Deliveries.{Delivery, delivery_at, deliveries_from, deliveries_of}
use Rattle.mn_ledger_laws.specs.Accounts.{is_copy}
use Rattle.mn_ledger_laws.proofs.Elsewhere.{judged_off, judged_here, push_other, cut_counts, cut_others}
use Rattle.mn_ledger_laws.proofs.Entering.{enters}
use Rattle.mn_ledger_laws.proofs.Moving.{after_step, injected_is, carried_is, lost_is, cut_is, arrives}
use Rattle.mn_ledger_laws.proofs.Fates.{where_it_flies, flying_inside, in_get, where_flying, the_frame, some_frame, no_frame}
use Rattle.mn_ledger_laws.proofs.At.{no_entry}
use Rattle.mn_ledger.specs.Ledger.{packets_by}
use Rattle.mn_ledger.specs.Time.{timed, timed_by, clock_after, is_overdue}
use Rattle.mn_base.specs.declared.numbers.LinkNo.{LinkNo}
use Rattle.mn_ledger_laws.proofs.Expired.{timed_off, timed_here, timed_older}

-- 1. A step that delivers nothing, and one that delivers a packet

-- the same packets were delivered, as the same copies
pub record IsQuiet (k w : Packets) : Type 0 where
  pub copies : w.copies ≡ k.copies
  pub delivered : w.delivered ≡ None
  pub back : (c j : ℕ) → j < length w.verdicts → is_copy c (verdict_on w j) ≡ true → (j < length k.verdicts) × (is_copy c (verdict_on k j) ≡ true)
  pub on : (c j : ℕ) → j < length k.verdicts → is_copy c (verdict_on k j) ≡ true → (j < length w.verdicts) × (is_copy c (verdict_on w j) ≡ true)

-- one packet more was delivered, as the next copy
pub record Delivers (k w : Packets) : Type 0 where
  pub packet : ℕ
  pub copies : w.copies ≡ k.copies + 1
  pub delivered : (b : List ℕ) × (w.delivered ≡ Some b)
  pub there : packet < length w.verdicts
  pub copy : is_copy (k.copies + 1) (verdict_on w packet) ≡ true
  pub one : (c : ℕ) → is_copy c (verdict_on w packet) ≡ true → c ≡ k.copies + 1
  pub free : (c : ℕ) → packet < length k.verdicts → is_copy c (verdict_on k packet) ≡ false
  pub back : (j : ℕ) → j ≢ packet → j < length w.verdicts → (j < length k.verdicts) × (verdict_on w j ≡ verdict_on k j)
  pub grows : length k.verdicts ≤ length w.verdicts

abbrev pub Goes : Packets → Packets → Type 0
Goes k w = IsQuiet k w ⊎ Delivers k w

-- before its verdict is known: the packet is none of those delivered, and the others are as they were
record IsReady (k u : Packets) (p : ℕ) : Type 0 where
  pub copies : u.copies ≡ k.copies
  pub delivered : u.delivered ≡ None
  pub inside : p < length u.verdicts
  pub grows : length k.verdicts ≤ length u.verdicts
  pub others : (j : ℕ) → j ≢ p → j < length u.verdicts → (j < length k.verdicts) × (verdict_on u j ≡ verdict_on k j)
  pub free : (c : ℕ) → p < length k.verdicts → is_copy c (verdict_on k p) ≡ false

set_length : (u : Packets) (p : ℕ) (v : Verdict) → length (judged u p v).verdicts ≡ length u.verdicts
set_length u p v = length-set u.verdicts p v

-- a verdict that is no delivery
quiet_verdict : (k u : Packets) (p : ℕ) (v : Verdict) → IsReady k u p → ((c : ℕ) → is_copy c v ≡ false) → (w : Packets)
    → w.verdicts ≡ (judged u p v).verdicts → w.copies ≡ u.copies → w.delivered ≡ u.delivered → IsQuiet k w
quiet_verdict k u p v r none w verdicts copies delivered = record {
  copies = copies ∙ r.copies;
  delivered = delivered ∙ r.delivered;
  back = λ c j h g. by_packet c j h g;
  on = λ c j h g. (omega (arith, h, r.grows, longer), still c j h g);
}
  where
    longer : length w.verdicts ≡ length u.verdicts
    longer = ap length verdicts ∙ set_length u p v

    same_list : (j : ℕ) → verdict_on w j ≡ verdict_on (judged u p v) j
    same_list j = ap (λ vs. verdict_on (record w { verdicts = vs }) j) verdicts

    here : verdict_on w p ≡ v
    here = same_list p ∙ judged_here u p v r.inside

    by_packet : (c j : ℕ) → j < length w.verdicts → is_copy c (verdict_on w j) ≡ true → (j < length k.verdicts) × (is_copy c (verdict_on k j) ≡ true)
    by_packet c j h g = elim (eqb_tells j p) [
      | inl q ↦ absurd (no (sym (none c) ∙ ap (is_copy c) (sym (ap (verdict_on w) q.1 ∙ here)) ∙ g))
      | inr q ↦
          let old = r.others j q.1 (subst (λ m. j < m) longer h) in
          (old.0, ap (is_copy c) (sym (same_list j ∙ (judged_off u p v j q.1).verdict ∙ old.1)) ∙ g)
    ]

    still : (c j : ℕ) → j < length k.verdicts → is_copy c (verdict_on k j) ≡ true → is_copy c (verdict_on w j) ≡ true
    still c j h g = elim (eqb_tells j p) [
      | inl q ↦ absurd (no (sym (r.free c (subst (λ m. m < length k.verdicts) q.1 h)) ∙ ap (λ m. is_copy c (verdict_on k m)) (sym q.1) ∙ g))
      | inr q ↦ ap (is_copy c) (same_list j ∙ (judged_off u p v j q.1).verdict ∙ (r.others j q.1 (omega (arith, h, r.grows))).1) ∙ g
    ]

delivers : (k u : Packets) (p s ttl : ℕ) (b : List ℕ) → IsReady k u p → Delivers k (deliver u p s ttl b)
delivers k u p s ttl b r =
    let v : Verdict = Delivered ttl (record { 0 = s }) (u.copies + 1) in
    let here : verdict_on (deliver u p s ttl b) p ≡ v = judged_here u p v r.inside in
    record {
      packet = p;
      copies = ap (λ n. n + 1) r.copies;
      delivered = (_, refl);
      there = subst (λ m. p < m) (sym (set_length u p v)) r.inside;
      copy = ap (is_copy (k.copies + 1)) here ∙ ap (λ n. (n + 1) == (k.copies + 1)) r.copies ∙ same_test (k.copies + 1);
      one = λ c h. sym (same_numbers (u.copies + 1) c (ap (is_copy c) (sym here) ∙ h)) ∙ ap (λ n. n + 1) r.copies;
      free = r.free;
      back = λ j d h. let old = r.others j d (subst (λ m. j < m) (set_length u p v) h) in (old.0, (judged_off u p v j d).verdict ∙ old.1);
      grows = subst (λ m. length k.verdicts ≤ m) (sym (set_length u p v)) r.grows;
    }

dropped : (k u : Packets) (p : ℕ) (cause : Rule) (n : ℕ) → IsReady k u p → IsQuiet k (drop_at u p cause n)
dropped k u p cause n r = quiet_verdict k u p (Dropped cause (record { 0 = n })) r (λ c. refl) (drop_at u p cause n) refl refl refl

-- 2. The steps

new_ready : (k : Packets) (e : ℕ) → IsReady k (one_more (before_step k) e) (length k.verdicts)
new_ready k e = record {
  copies = refl;
  delivered = refl;
  inside = omega (arith, length_push k.verdicts (Dropped rule.Lost (record { 0 = e })));
  grows = omega (arith, length_push k.verdicts (Dropped rule.Lost (record { 0 = e })));
  others = λ j d h. let below = less j d h in (below, push_other k.verdicts j (Dropped rule.Lost (record { 0 = e })) (Delivered 0 (record { 0 = 0 }) 0) below);
  free = λ c h. absurd (same_less (length k.verdicts) h);
}
  where
    same_less : (n : ℕ) → n < n → ⊥
    same_less n h = omega (arith, h)

    less : (j : ℕ) → j ≢ length k.verdicts → j < length (k.verdicts ++ Dropped rule.Lost (record { 0 = e }) ∷ []) → j < length k.verdicts
    less j d h = omega (arith, d, h, length_push k.verdicts (Dropped rule.Lost (record { 0 = e })))

entered : (t : Network) (v : World) (k : Packets) (site : ℕ) (b : List ℕ)
    → Goes k (enter_by t v (one_more (before_step k) (home_of t site)) (length k.verdicts) b (home_of t site) (vrf_of t site)
    (first_rule (entry_rules (v.config.attached site) b)))
entered t v k site b =
    let u : Packets = one_more (before_step k) (home_of t site) in
    let ready : IsReady k u (length k.verdicts) = new_ready k (home_of t site) in
    enters (Goes k) t v u (length k.verdicts) site b (record {
      falls = λ cause f. inl (dropped k u (length k.verdicts) cause (home_of t site) ready);
      delivered = λ x p m e. inr (delivers k u (length k.verdicts) x.site _ b ready);
      flies = λ x hop p m e q. inl
          (quiet_verdict k u (length k.verdicts) _ ready (λ c. refl)
          (hop_over t u (stamped u (bound (length k.verdicts) x b)) (home_of t site) rule.NoLsp (Some hop)) refl refl refl);
    })

-- the packet of a frame was not delivered
frame_ready : (k : Packets) (count : ℕ) (f : Token) (c place : ℕ) (u : Packets) → AreInOnePlace k count → slice_get (k.flying c) place ≡ Some f
    → u.verdicts ≡ k.verdicts → u.copies ≡ k.copies → u.delivered ≡ None
    → ((n : ℕ) → is_copy n (verdict_on k f.packet) ≡ false) → IsReady k u f.packet
frame_ready k count f c place u one at verdicts copies delivered free = record {
  copies = copies;
  delivered = delivered;
  inside = subst (λ vs. f.packet < length vs) (sym verdicts) (loosen k c place count f one at).within;
  grows = subst (λ vs. length k.verdicts ≤ length vs) (sym verdicts) (omega arith);
  others = λ j d h. (subst (λ vs. j < length vs) verdicts h, ap (λ vs. verdict_on (record u { verdicts = vs }) j) verdicts);
  free = λ n h. free n;
}

flying_free : (k : Packets) (count : ℕ) (l : ℕ) (d : Dir) (place : ℕ) (f : Token) → AreInOnePlace k count → slice_get (flying_on k l d) place ≡ Some f
    → (n : ℕ) → is_copy n (verdict_on k f.packet) ≡ false
flying_free k count l d place f one at n = ap (is_copy n) (where_it_flies k count (record { 0 = l }) d f one (in_get (flying_on k l d) place f at))

quiet_as : (k w : Packets) → w.verdicts ≡ k.verdicts → w.copies ≡ k.copies → w.delivered ≡ None → IsQuiet k w
quiet_as k w verdicts copies delivered = record {
  copies = copies;
  delivered = delivered;
  back = λ c j h g. (subst (λ vs. j < length vs) verdicts h, ap (λ vs. is_copy c (verdict_on (record w { verdicts = vs }) j)) (sym verdicts) ∙ g);
  on = λ c j h g. (subst (λ vs. j < length vs) (sym verdicts) h, ap (λ vs. is_copy c (verdict_on (record w { verdicts = vs }) j)) verdicts ∙ g);
}

carried : (t : Network) (v : World) (k : Packets) (count l : ℕ) (d : Dir) (place y : ℕ) (o : Option Token) → AreInOnePlace k count
    → slice_get (flying_on k l d) place ≡ o → Goes k (carry t v (taken (before_step k) l d place) y o)
carried t v k count l d place y None one at = inl (quiet_as k (taken (before_step k) l d place) refl refl refl)
carried t v k count l d place y (Some f) one at =
    let u : Packets = visited (taken (before_step k) l d place) f.packet y in
    let ready : IsReady k u f.packet = frame_ready k count f (channel l d) place u one at refl refl refl (flying_free k count l d place f one at) in
    arrives (Goes k) t v u f y (record {
      expires = λ a. inl (dropped k u f.packet rule.TtlExpired y ready);
      delivered = λ a b c. inr (delivers k u f.packet f.site _ f.bytes ready);
      gone = λ a b c. inl (dropped k u f.packet rule.SiteGone y ready);
      stuck = λ a b c. inl (dropped k u f.packet rule.NoEntry y ready);
      flies = λ a b hop c. inl
          (quiet_verdict k u f.packet _ ready (λ n. refl) (hop_over t u (stamped u (record f { ttl = f.ttl - 1 })) y rule.NoEntry (Some hop)) refl refl refl);
    })

lost : (k : Packets) (count l : ℕ) (d : Dir) (place n : ℕ) (o : Option Token) → AreInOnePlace k count → slice_get (flying_on k l d) place ≡ o
    → IsQuiet k (lose (taken (before_step k) l d place) n o)
lost k count l d place n None one at = quiet_as k (taken (before_step k) l d place) refl refl refl
lost k count l d place n (Some f) one at =
    let u : Packets = taken (before_step k) l d place in
    dropped k u f.packet rule.Lost n (frame_ready k count f (channel l d) place u one at refl refl refl (flying_free k count l d place f one at))

quiet_on : (k u w : Packets) → IsQuiet k u → IsQuiet u w → IsQuiet k w
quiet_on k u w f g = record {
  copies = g.copies ∙ f.copies;
  delivered = g.delivered;
  back = λ c j h e. let r = g.back c j h e in f.back c j r.0 r.1;
  on = λ c j h e. let r = f.on c j h e in g.on c j r.0 r.1;
}

abbrev NoneDelivered : Packets → List Token → Type 0
NoneDelivered w ks = (f : Token) → In ks f → (f.packet < length w.verdicts) × ((n : ℕ) → is_copy n (verdict_on w f.packet) ≡ false)

cut_quiet : (ks : List Token) (w : Packets) (c n : ℕ) → w.delivered ≡ None → NoneDelivered w ks → IsQuiet w (cut_each w c n ks)
cut_quiet [] w c n none h = quiet_as w w refl refl none
cut_quiet (f ∷ ks) w c n none h =
    let u : Packets = record w { flying = put w.flying c ks } in
    let v : Packets = drop_at u f.packet rule.LinkCut n in
    let first = h f (inl refl) in
    let ready : IsReady w u
    f.packet = record { copies = refl; delivered = none; inside = first.0; grows = omega arith; others = λ j d g. (g, refl); free = λ m g. first.1 m } in
    quiet_on w v (cut_each v c n ks) (dropped w u f.packet rule.LinkCut n ready)
    (cut_quiet ks v c n none
    (λ g i. (
      subst (λ m. g.packet < m) (sym (set_length u f.packet (Dropped rule.LinkCut (record { 0 = n })))) (h g (inr i)).0,
      other g
          (h g (inr i)).1 first.0,
    )))
  where
    other : (g : Token) → ((m : ℕ) → is_copy m (verdict_on w g.packet) ≡ false) → f.packet < length w.verdicts → (m : ℕ)
        → is_copy m (verdict_on (drop_at (record w { flying = put w.flying c ks }) f.packet rule.LinkCut n) g.packet) ≡ false
    other g free inside m = elim (eqb_tells g.packet f.packet) [
      | inl q ↦ ap (λ j. is_copy m (verdict_on (drop_at (record w { flying = put w.flying c ks }) f.packet rule.LinkCut n) j)) q.1
          ∙ ap (is_copy m) (judged_here (record w { flying = put w.flying c ks }) f.packet (Dropped rule.LinkCut (record { 0 = n })) inside)
      | inr q ↦ ap (is_copy m)
          (judged_off (record w { flying = put w.flying c ks }) f.packet (Dropped rule.LinkCut (record { 0 = n })) g.packet q.1).verdict ∙ free m
    ]

-- no frame's packet was delivered
on_link : (k : Packets) (count : ℕ) (l : ℕ) (d : Dir) → AreInOnePlace k count → NoneDelivered k (flying_on k l d)
on_link k count l d one f i =
    let is : verdict_on k f.packet ≡ Flying (record { 0 = l }) d = where_it_flies k count (record { 0 = l }) d f one i in
    (flying_inside k f.packet (record { 0 = l }) d is, λ n. ap (is_copy n) is)

both_cut : (t : Network) (k : Packets) (count l : ℕ) → AreInOnePlace k count → IsQuiet k (cut t (cut t (before_step k) l Forth) l Back)
both_cut t k count l one =
    let w : Packets = before_step k in
    let first : Packets = cut t w l Forth in
    let counts = cut_counts (flying_on w l Forth) w (channel l Forth) (sender (wiring_of t) l Forth) in
    let quiet : IsQuiet w first = cut_quiet (flying_on w l Forth) w (channel l Forth) (sender (wiring_of t) l Forth) refl (on_link k count l Forth one) in
    let left : NoneDelivered first (flying_on first l Back) = λ f i.
    let old = on_link k count l Back one f
    (subst (λ xs. In xs f) (cut_others (flying_on w l Forth) w (channel l Forth) (sender (wiring_of t) l Forth) (channel l Back) apart) i) in
    let inside : f.packet < length first.verdicts = subst (λ m. f.packet < m) (sym counts.2) old.0 in (
      inside,
      λ n. elim (two_ways (is_copy n (verdict_on first f.packet)))
          [ inl q ↦ absurd (no (sym (old.1 n) ∙ (quiet.back n f.packet inside q).1)) | inr q ↦ q ],
    ) in
    quiet_on k w _ (quiet_as k w refl refl refl)
    (quiet_on w first _ quiet (cut_quiet (flying_on first l Back) first (channel l Back) (sender (wiring_of t) l Back) quiet.delivered left))
  where
    apart : channel l Back ≢ channel l Forth
    apart h = omega (arith, h)

pub goes : (t : Network) (w : World) (k : Packets) (count : ℕ) (s : Step) (b : List ℕ) → AreInOnePlace k count → Goes k (after_step t w k s b)
unfolding packets_after
goes t w k count (Inject r number) b one = subst (Goes k) (sym (injected_is t w k r number b)) (entered t w k r.0 b)
goes t w k count (Carry l d place) b one = subst (Goes k) (sym (carried_is t w k l d place b))
    (carried t w k count l.0 d place (receiver (wiring_of t) l.0 d) (slice_get (flying_on k l.0 d) place) one refl)
goes t w k count (Lose l d place) b one = inl
    (subst (IsQuiet k) (sym (lost_is t w k l d place b)) (lost k count l.0 d place (sender (wiring_of t) l.0 d) (slice_get (flying_on k l.0 d) place) one refl))
goes t w k count (LinkDown l) b one = inl (subst (IsQuiet k) (sym (cut_is t w k l b)) (both_cut t k count l.0 one))
goes t w k count _ b one = inl (quiet_as k (before_step k) refl refl refl)

-- 3. Copies are numbered from 1

pub record AreNumbered (k : Packets) : Type 0 where
  pub upper : (c j : ℕ) → j < length k.verdicts → is_copy c (verdict_on k j) ≡ true → (1 ≤ c) × (c ≤ k.copies)
  pub each : (c : ℕ) → 1 ≤ c → c ≤ k.copies → (p : ℕ) × (p < length k.verdicts) × (is_copy c (verdict_on k p) ≡ true)
  pub once : (c i j : ℕ) → i < length k.verdicts → j < length k.verdicts → is_copy c (verdict_on k i) ≡ true → is_copy c (verdict_on k j) ≡ true → i ≡ j

quiet_numbered : (k w : Packets) → IsQuiet k w → AreNumbered k → AreNumbered w
quiet_numbered k w q h = record {
  upper = λ c j g e. let old = q.back c j g e in let le = h.upper c j old.0 old.1 in (le.0, omega (arith, le.1, q.copies));
  each = λ c low high. let old = h.each c low (omega (arith, high, q.copies)) in let now = q.on c old.0 old.1 old.2 in (old.0, now.0, now.1);
  once = λ c i j g f e d. let one = q.back c i g e in let two = q.back c j f d in h.once c i j one.0 two.0 one.1 two.1;
}

delivers_numbered : (k w : Packets) → Delivers k w → AreNumbered k → AreNumbered w
delivers_numbered k w d h = record { upper = upper; each = each; once = once }
  where
    upper : (c j : ℕ) → j < length w.verdicts → is_copy c (verdict_on w j) ≡ true → (1 ≤ c) × (c ≤ w.copies)
    upper c j g e = elim (eqb_tells j d.packet) [
      | inl q ↦ let is : c ≡ k.copies + 1 = d.one c (ap (λ m. is_copy c (verdict_on w m)) (sym q.1) ∙ e) in (omega (arith, is), omega (arith, is, d.copies))
      | inr q ↦ let old = d.back j q.1 g in let le = h.upper c j old.0 (ap (is_copy c) (sym old.1) ∙ e) in (le.0, omega (arith, le.1, d.copies))
    ]

    each : (c : ℕ) → 1 ≤ c → c ≤ w.copies → (p : ℕ) × (p < length w.verdicts) × (is_copy c (verdict_on w p) ≡ true)
    each c low high = elim (eqb_tells c (k.copies + 1)) [
      | inl q ↦ (d.packet, d.there, ap (λ m. is_copy m (verdict_on w d.packet)) q.1 ∙ d.copy)
      | inr q ↦ by_old (h.each c low (omega (arith, high, d.copies, q.1)))
    ]
      where
        by_old : (p : ℕ) × (p < length k.verdicts) × (is_copy c (verdict_on k p) ≡ true)
            → (p : ℕ) × (p < length w.verdicts) × (is_copy c (verdict_on w p) ≡ true)
        by_old old = elim (eqb_tells old.0 d.packet) [
          | inl q ↦ absurd (no (sym (d.free c (subst (λ m. m < length k.verdicts) q.1 old.1)) ∙ ap (λ m. is_copy c (verdict_on k m)) (sym q.1) ∙ old.2))
          | inr q ↦ let within : old.0 < length w.verdicts = omega (arith, old.1, d.grows) in
              (old.0, within, ap (is_copy c) (d.back old.0 q.1 within).1 ∙ old.2)
        ]

    -- one that isn't the packet has an earlier number
    earlier : (c j : ℕ) → j ≢ d.packet → j < length w.verdicts → is_copy c (verdict_on w j) ≡ true → c ≢ k.copies + 1
    earlier c j apart g e same = let old = d.back j apart g in let le = h.upper c j old.0 (ap (is_copy c) (sym old.1) ∙ e) in past c k.copies le.1 same
      where
        past : (c n : ℕ) → c ≤ n → c ≡ n + 1 → ⊥
        past c n h e = omega (arith, h, e)

    once : (c i j : ℕ) → i < length w.verdicts → j < length w.verdicts → is_copy c (verdict_on w i) ≡ true → is_copy c (verdict_on w j) ≡ true → i ≡ j
    once c i j g f e x = elim (eqb_tells i d.packet) [
      | inl q ↦ elim (eqb_tells j d.packet) [
        | inl r ↦ q.1 ∙ sym r.1
        | inr r ↦ absurd (earlier c j r.1 f x (d.one c (ap (λ m. is_copy c (verdict_on w m)) (sym q.1) ∙ e)))
      ]
      | inr q ↦ elim (eqb_tells j d.packet) [
        | inl r ↦ absurd (earlier c i q.1 g e (d.one c (ap (λ m. is_copy c (verdict_on w m)) (sym r.1) ∙ x)))
        | inr r ↦ let one = d.back i q.1 g in let two = d.back j r.1 f in h.once c i j one.0 two.0 (ap (is_copy c) (sym one.1) ∙ e)
            (ap (is_copy c) (sym two.1) ∙ x)
      ]
    ]

numbered_step : (k w : Packets) → Goes k w → AreNumbered k → AreNumbered w
numbered_step k w g h = elim g [ inl q ↦ quiet_numbered k w q h | inr d ↦ delivers_numbered k w d h ]

-- as time goes on no packet becomes a copy, or is one no more
record AreAlike (k w : Packets) : Type 0 where
  copies : w.copies ≡ k.copies
  as_many : length w.verdicts ≡ length k.verdicts
  same : (n j : ℕ) → is_copy n (verdict_on w j) ≡ is_copy n (verdict_on k j)

as_numbered : (k w : Packets) → AreAlike k w → AreNumbered k → AreNumbered w
as_numbered k w a h = record {
  upper = λ c j g e. let le = h.upper c j (inside j g) (sym (a.same c j) ∙ e) in (le.0, omega (arith, le.1, a.copies));
  each = λ c low high. let old = h.each c low (omega (arith, high, a.copies)) in (old.0, subst (λ n. old.0 < n) (sym a.as_many) old.1, a.same c old.0 ∙ old.2);
  once = λ c i j g f e d. h.once c i j (inside i g) (inside j f) (sym (a.same c i) ∙ e) (sym (a.same c j) ∙ d);
}
  where
    inside : (j : ℕ) → j < length w.verdicts → j < length k.verdicts
    inside j g = subst (λ n. j < n) a.as_many g

-- a packet that flies is no copy, nor is one whose frame was overdue
ticked_copy : (t : Network) (clock ticks : ℕ) (k : Packets) (count n j : ℕ) → AreInOnePlace k count
    → is_copy n (verdict_on (timed_by t clock (Tick ticks) k) j) ≡ is_copy n (verdict_on k j)
ticked_copy t clock ticks k count n j one = elim (where_flying (verdict_on k j)) [
  | inl q ↦ ap (is_copy n) (timed_off t clock ticks j k (λ l d f there i same. absurd (no_frame k count j (channel l d) f one q i same))).verdict
  | inr q ↦ of_frame q.0 q.1 q.2 (some_frame k count j q.0 q.1 one q.2)
]
  where
    of_frame : (l : LinkNo) (d : Dir) → verdict_on k j ≡ Flying l d → (x : Token) × In (k.flying (channel l.0 d)) x × (x.packet ≡ j)
        → is_copy n (verdict_on (timed_by t clock (Tick ticks) k) j) ≡ is_copy n (verdict_on k j)
    of_frame l d is x = elim (two_ways (is_overdue t clock l.0 x.0)) [
      | inr early ↦ ap (is_copy n) (timed_off t clock ticks j k (λ m b f there i same.
          let at = the_frame k count j l (record { 0 = m }) d b f x.0 one is x.1 x.2 i same in
          ap (λ a. is_overdue t clock a f) at.0 ∙ ap (is_overdue t clock l.0) at.2 ∙ early)).verdict
      | inl late ↦ elim (leb_tells (length t.links) l.0) [
        | inl past ↦ ap (is_copy n) (timed_off t clock ticks j k (λ m b f there i same.
            let at = the_frame k count j l (record { 0 = m }) d b f x.0 one is x.1 x.2 i same in
            absurd (beyond m l.0 (length t.links) at.0 there past.1))).verdict
        | inr there ↦ ap (λ i. is_copy n (verdict_on (timed_by t clock (Tick ticks) k) i)) (sym x.2)
            ∙ ap (is_copy n) (timed_here t clock ticks l.0 d x.0 k there.1 x.1 late
            (subst (λ i. i < length k.verdicts) (sym x.2) (flying_inside k j l d is))
            (λ m b f i same. let at = the_frame k count j l (record { 0 = m }) d b f x.0 one is x.1 x.2 i (same ∙ x.2) in
            ap (λ a. sender (wiring_of t) a b) at.0 ∙ ap (sender (wiring_of t) l.0) at.1))
            ∙ sym (ap (is_copy n) is)
      ]
    ]
      where
        beyond : (m l n : ℕ) → m ≡ l → m < n → n ≤ l → ⊥
        beyond m l n e h g = omega (arith, e, h, g)

timed_alike : (t : Network) (clock : ℕ) (s : Step) (k : Packets) (count : ℕ) → AreInOnePlace k count → AreAlike k (timed_by t clock s k)
timed_alike t clock (Tick ticks) k count one = let old = timed_older t clock ticks k in record {
  copies = old.copies;
  as_many = old.verdicts;
  same = λ n j. ticked_copy t clock ticks k count n j one;
}
timed_alike t clock _ k count one = record { copies = refl; as_many = refl; same = λ n j. refl }

numbered_from : (t : Network) (es : List JournalEntry) (w : World) (k : Packets) (count : ℕ) (ps : List (List ℕ)) → AreInOnePlace k count
    → AreNumbered k → AreNumbered (packets_from t w k es ps)
numbered_from t [] w k count ps one h = h
numbered_from t (e ∷ es) w k count ps one h =
    let v : World = after t w e.step in
    let q : Packets = packets_by t v k e (next_of ps) in
    let now : Packets = timed t e k in
    let placed : AreInOnePlace now count = timed_places t e k count one in
    numbered_from t es v q (one_if (injects e.step) + count) (left_by e.step ps) (stepped t v now e.step (next_of ps) count placed)
    (numbered_step now q (goes t w now count e.step (next_of ps) placed) (as_numbered k now (timed_alike t (clock_after e) e.step k count one) h))

none_numbered : AreNumbered no_packets
none_numbered = record {
  upper = λ c j h e. absurd (none_below j h);
  each = λ c low high. absurd (none c low high);
  once = λ c i j h g e f. absurd
      (none_below i h);
}
  where
    none : (c : ℕ) → 1 ≤ c → c ≤ 0 → ⊥
    none c h g = omega (arith, h, g)

pub nowhere : AreInOnePlace no_packets 0
nowhere = record { places = λ j c. refl; verdicts = refl; paths = refl }

pub numbered : (t : Network) (es : List JournalEntry) (ps : List (List ℕ)) → AreNumbered (packets_of t es ps)
numbered t es ps = numbered_from t es (start t) no_packets 0 ps nowhere none_numbered

-- 4. The list of deliveries

counted_step : (k w : Packets) (tick : ℕ) → Goes k w → w.copies ≡ k.copies + length (delivery_at tick w.delivered)
counted_step k w tick g = elim g [
  | inl q ↦ omega (arith, q.copies, ap (λ o. length (delivery_at tick o)) q.delivered)
  | inr d ↦ omega (arith, d.copies, ap (λ o. length (delivery_at tick o)) d.delivered.1)
]

as_many_from : (t : Network) (es : List JournalEntry) (w : World) (k : Packets) (count : ℕ) (ps : List (List ℕ)) → AreInOnePlace k count
    → (packets_from t w k es ps).copies ≡ k.copies + length (deliveries_from t w k es ps)
as_many_from t [] w k count ps one = omega arith
as_many_from t (e ∷ es) w k count ps one =
    let v : World = after t w e.step in
    let q : Packets = packets_by t v k e (next_of ps) in
    let now : Packets = timed t e k in
    let placed : AreInOnePlace now count = timed_places t e k count one in
    omega (
      arith,
      as_many_from t es v q (one_if (injects e.step) + count) (left_by e.step ps) (stepped t v now e.step (next_of ps) count placed),
      (timed_alike t (clock_after e) e.step k count one).copies,
      counted_step now q e.tick (goes t w now count e.step (next_of ps) placed),
      length-append (delivery_at e.tick q.delivered) (deliveries_from t v q es (left_by e.step ps)),
    )

pub as_many : (t : Network) (es : List JournalEntry) (ps : List (List ℕ)) → (packets_of t es ps).copies ≡ length (deliveries_of t es ps)
as_many t es ps = let all : (packets_of t es ps).copies ≡ 0 + length (deliveries_of t es ps) = as_many_from t es
    (start t) no_packets 0 ps nowhere in omega (arith, all)

get_past : {A : Type 0} (xs ys : List A) (i : ℕ) → slice_get (xs ++ ys) (length xs + i) ≡ slice_get ys i
get_past [] ys i = ap (slice_get ys) (none i)
  where
    none : (i : ℕ) → 0 + i ≡ i
    none i = omega arith
get_past (x ∷ xs) ys i = ap (slice_get (x ∷ (xs ++ ys))) (one (length xs) i) ∙ get_past xs ys i
  where
    one : (n i : ℕ) → suc n + i ≡ suc (n + i)
    one n i = omega arith

listed_from : (t : Network) (es : List JournalEntry) (n : ℕ) (e : JournalEntry) (b : List ℕ) (w : World) (k : Packets) (ps : List (List ℕ))
    → slice_get es n ≡ Some e → (packets_from t w k (take (suc n) es) ps).delivered ≡ Some b
    → slice_get (deliveries_from t w k es ps) (length (deliveries_from t w k (take n es) ps)) ≡ Some (record { tick = e.tick; bytes = b })
listed_from t [] n e b w k ps h d = absurd (no_entry e h)
listed_from t (x ∷ es) zero e b w k ps h d =
    let v : World = after t w x.step in
    let q : Packets = packets_by t v k x (next_of ps) in
    ap (λ o. slice_get (delivery_at x.tick o ++ deliveries_from t v q es (left_by x.step ps)) 0) d
    ∙ ap (λ (y : JournalEntry). Some (record { tick = y.tick; bytes = b })) (same_Some x e h)
listed_from t (x ∷ es) (suc n) e b w k ps h d =
    let v : World = after t w x.step in
    let q : Packets = packets_by t v k x (next_of ps) in
    let here : List Delivery = delivery_at x.tick q.delivered in
    ap (slice_get (here ++ deliveries_from t v q es (left_by x.step ps))) (length-append here (deliveries_from t v q (take n es) (left_by x.step ps)))
    ∙ get_past here (deliveries_from t v q es (left_by x.step ps)) (length (deliveries_from t v q (take n es) (left_by x.step ps)))
    ∙ listed_from t es n e b v q (left_by x.step ps) h d

-- the delivery of a step is listed at the number of deliveries before it
pub listed : (t : Network) (es : List JournalEntry) (ps : List (List ℕ)) (n : ℕ) (e : JournalEntry) (b : List ℕ) → slice_get es n ≡ Some e
    → (packets_of t (take (suc n) es) ps).delivered ≡ Some b
    → slice_get (deliveries_of t es ps) (packets_of t (take n es) ps).copies ≡ Some (record { tick = e.tick; bytes = b })
listed t es ps n e b h d = ap (slice_get (deliveries_of t es ps)) (as_many t (take n es) ps) ∙ listed_from t es n e b (start t) no_packets ps h d
