-- Each packet that flies does so over a link of the network.
use Rattle.std.proofs.Common.{ℕ, zero, suc, ◌≡◌, ◌≢◌, ◌-◌, ◌<◌, inl, inr, true, false, List, [], ◌∷◌, ◌++◌, length, refl, sym, ap, subst, Option, Some, None}
use Rattle.std.specs.Prelude.{◌==◌, nat_le, nat_lt, slice_get}
use Rattle.std.proofs.lemmas.Bool.{and_parts, ltb-true}
use Rattle.mn_base.proofs.Bools.{other_numbers}
use Rattle.mn_drops.specs.declared.drops.Rule.{Rule}
use Rattle.mn_drops.specs.declared.drops.Rule.TheVariants as rule
use Rattle.mn_wiring.specs.declared.links.Dir.{Dir}
use Rattle.mn_wiring.specs.declared.links.Dir.TheVariants.{Forth, Back}
use Rattle.mn_wiring.specs.Wiring.{sender, receiver, links_of}
use Rattle.mn_topo.specs.Lawful.{IsLawful}
use Rattle.mn_topo.specs.Network.{Network, wiring_of}
use Rattle.mn_topo.specs.Steps.{fits}
use Rattle.mn_topo.specs.declared.steps.Step.{Step}
use Rattle.mn_topo.specs.declared.steps.Step.TheVariants.{LinkDown, Inject, Carry, Lose, Tick}
use Rattle.mn_ledger.specs.declared.verdict.Verdict.{Verdict}
use Rattle.mn_ledger.specs.declared.verdict.Verdict.TheVariants.{Dropped, Flying}
use Rattle.mn_ledger.specs.Entry.{first_rule}
use Rattle.mn_ledger.specs.Tables.{put}
use Rattle.mn_ledger.specs.Places.{home_of, vrf_of}
use Rattle.mn_ledger.specs.World.{World}
use Rattle.mn_ledger.specs.Packets.{Token, Packets, channel, flying_on, away_from, judged, drop_at, visited, deliver, hop_over, bound, entry_rules}
use Rattle.mn_ledger.specs.Packets.{enter_by, one_more, taken, carry, lose, cut_each, cut, before_step, packets_after, fall}
use Rattle.mn_ledger.specs.Ledger.{no_packets}
use Rattle.mn_ledger.specs.Verdicts.{verdict_on}
use Rattle.mn_ledger_laws.proofs.Elsewhere.{set_verdict, arms_by}
use Rattle.mn_ledger_laws.proofs.Entering.{enters}
use Rattle.mn_ledger_laws.proofs.Moving.{after_step, injected_is, carried_is, lost_is, cut_is, arrives}
use Rattle.mn_ledger_laws.proofs.There.{home_there, receiver_there, hop_is}
use Rattle.mn_ledger.specs.Time.{is_overdue, expire_from, expire_on, expire_over, timed_by}
use Rattle.mn_ledger_laws.proofs.Expired.{later}
use Rattle.std.proofs.Common.{◌+◌}

abbrev pub IsLinked : Network → Verdict → Type 0
IsLinked t (Flying l d) = l.0 < length t.links
IsLinked t _ = Unit {0}

-- each verdict that flies is over a link of the network
abbrev pub AreLinked : Network → Packets → Type 0
AreLinked t w = (j : ℕ) → IsLinked t (verdict_on w j)

judged_linked : (t : Network) (u : Packets) (p : ℕ) (v : Verdict) → AreLinked t u → IsLinked t v → (w : Packets)
    → w.verdicts ≡ (judged u p v).verdicts → AreLinked t w
judged_linked t u p v h g w e j =
    subst (IsLinked t) (ap (λ vs. verdict_on (record w { verdicts = vs }) j) (sym e))
    (elim (set_verdict u p v j) [ inl q ↦ subst (IsLinked t) (sym q) g | inr q ↦ subst (IsLinked t) (sym q) (h j) ])

same_linked : (t : Network) (u w : Packets) → w.verdicts ≡ u.verdicts → AreLinked t u → AreLinked t w
same_linked t u w e h j = subst (IsLinked t) (ap (λ vs. verdict_on (record w { verdicts = vs }) j) (sym e)) (h j)

one_more_linked : (t : Network) (u : Packets) (e : ℕ) → AreLinked t u → AreLinked t (one_more u e)
one_more_linked t u e h j = subst (IsLinked t) (sym (at u.verdicts j)) (tail u.verdicts j (h j))
  where
    lost : Verdict
    lost = Dropped rule.Lost (record { 0 = e })

    at : (vs : List Verdict) (j : ℕ) → verdict_on (record u { verdicts = vs ++ lost ∷ [] }) j ≡ verdict_on (record u { verdicts = vs ++ lost ∷ [] }) j
    at vs j = refl

    tail : (vs : List Verdict) (j : ℕ) → IsLinked t (verdict_on (record u { verdicts = vs }) j)
        → IsLinked t (verdict_on (record u { verdicts = vs ++ lost ∷ [] }) j)
    tail [] zero g = tt
    tail [] (suc j) g = tt
    tail (v ∷ vs) zero g = g
    tail (v ∷ vs) (suc j) g = tail vs j g

hop_linked : (t : Network) (w : World) (u : Packets) (k : Token) (node : ℕ) (cause : Rule) (hop : ℕ × ℕ) → AreLinked t u → hop.1 < length t.links
    → AreLinked t (hop_over t u k node cause (Some hop))
hop_linked t w u k node cause hop h there = judged_linked t u k.packet (Flying (record { 0 = hop.1 }) (away_from t hop.1 node)) h there
    (hop_over t u k node cause (Some hop)) refl

apart_back : (a b : ℕ) → (a == b) ≡ false → b ≢ a
apart_back a b h q = other_numbers a b h (sym q)

entered : (t : Network) (w : World) (k : Packets) (site : ℕ) (b : List ℕ) (n : ℕ) → IsLawful t → site < length t.sites → AreLinked t k
    → AreLinked t (enter_by t w (one_more (before_step k) (home_of t site)) n b (home_of t site) (vrf_of t site)
    (first_rule (entry_rules (w.config.attached site) b)))
entered t w k site b n lawful there h =
    let u : Packets = one_more (before_step k) (home_of t site) in
    let g : AreLinked t u = one_more_linked t (before_step k) (home_of t site) h in
    enters (AreLinked t) t w u n site b (record {
      falls = λ cause f. judged_linked t u n _ g tt (drop_at u n cause (home_of t site)) refl;
      delivered = λ x p m e. judged_linked t u n _ g tt (deliver u n x.site _ b) refl;
      flies = λ x hop p m e can. hop_linked t w u (bound n x b) (home_of t site) rule.NoLsp hop g
          (hop_is t w (home_of t site) x.edge hop lawful (home_there t site lawful there) (apart_back x.edge (home_of t site) e) can).there;
    })

carried : (t : Network) (w : World) (k : Packets) (l : ℕ) (d : Dir) (place : ℕ) (o : Option Token) → IsLawful t → l < length t.links → AreLinked t k
    → AreLinked t (carry t w (taken (before_step k) l d place) (receiver (wiring_of t) l d) o)
carried t w k l d place None lawful there h = h
carried t w k l d place (Some f) lawful there h =
    let y : ℕ = receiver (wiring_of t) l d in
    let u : Packets = visited (taken (before_step k) l d place) f.packet y in
    arrives (AreLinked t) t w u f y (record {
      expires = λ a. judged_linked t u f.packet _ h tt (drop_at u f.packet rule.TtlExpired y) refl;
      delivered = λ a b c. judged_linked t u f.packet _ h tt (deliver u f.packet f.site _ f.bytes) refl;
      gone = λ a b c. judged_linked t u f.packet _ h tt (drop_at u f.packet rule.SiteGone y) refl;
      stuck = λ a b c. judged_linked t u f.packet _ h tt (drop_at u f.packet rule.NoEntry y) refl;
      flies = λ a b hop can. hop_linked t w u (record f { ttl = f.ttl - 1 }) y rule.NoEntry hop h
          (hop_is t w y f.edge hop lawful (receiver_there t l d lawful there) (other_numbers y f.edge b) can).there;
    })

lost : (t : Network) (k : Packets) (l : ℕ) (d : Dir) (place n : ℕ) (o : Option Token) → AreLinked t k → AreLinked t (lose (taken (before_step k) l d place) n o)
lost t k l d place n None h = h
lost t k l d place n (Some f) h = judged_linked t (taken (before_step k) l d place) f.packet _ h tt
    (drop_at (taken (before_step k) l d place) f.packet rule.Lost n) refl

cut_linked : (t : Network) (ks : List Token) (w : Packets) (c n : ℕ) → AreLinked t w → AreLinked t (cut_each w c n ks)
cut_linked t [] w c n h = h
cut_linked t (f ∷ ks) w c n h =
    let u : Packets = record w { flying = put w.flying c ks } in
    cut_linked t ks (drop_at u f.packet rule.LinkCut n) c n
    (judged_linked t u f.packet (Dropped rule.LinkCut (record { 0 = n })) h tt (drop_at u f.packet rule.LinkCut n) refl)

-- a packet whose frame ends is on no link
fall_linked : (t : Network) (w : Packets) (l : ℕ) (d : Dir) (n node : ℕ) (o : Option Token) → AreLinked t w →
    AreLinked t (fall rule.Overdue (taken w l d n) node o)
fall_linked t w l d n node None h = same_linked t w (taken w l d n) refl h
fall_linked t w l d n node (Some f) h =
    judged_linked t (taken w l d n) f.packet (Dropped rule.Overdue (record { 0 = node })) (same_linked t w (taken w l d n) refl h) tt
    (drop_at (taken w l d n) f.packet rule.Overdue node) refl

from_linked : (t : Network) (clock l : ℕ) (d : Dir) (ks : List Token) (n : ℕ) (w : Packets) → AreLinked t w → AreLinked t (expire_from t clock l d n ks w)
from_linked t clock l d [] n w h = h
from_linked t clock l d (k ∷ ks) n w h =
    arms_by (AreLinked t) (is_overdue t clock l k) _ _
    (λ e. from_linked t clock l d ks n _ (fall_linked t w l d n (sender (wiring_of t) l d) (slice_get (flying_on w l d) n) h))
    (λ e. from_linked t clock l d ks (n + 1) w h)

over_linked : (t : Network) (clock : ℕ) (ls : List ℕ) (w : Packets) → AreLinked t w → AreLinked t (expire_over t clock ls w)
over_linked t clock [] w h = h
over_linked t clock (l ∷ ls) w h =
    let first : Packets = expire_on t clock l Forth w in
    over_linked t clock ls (expire_on t clock l Back first)
    (from_linked t clock l Back (flying_on first l Back) 0 first (from_linked t clock l Forth (flying_on w l Forth) 0 w h))

pub timed_linked : (t : Network) (clock : ℕ) (s : Step) (w : Packets) → AreLinked t w → AreLinked t (timed_by t clock s w)
timed_linked t clock (Tick ticks) w h = over_linked t clock (links_of (wiring_of t)) (later w clock) h
timed_linked t clock _ w h = h

pub linked_step : (t : Network) (w : World) (k : Packets) (s : Step) (b : List ℕ) → IsLawful t → fits t s ≡ true → AreLinked t k
    → AreLinked t (after_step t w k s b)
unfolding packets_after
linked_step t w k (Inject r number) b lawful fit h =
    subst (AreLinked t) (sym (injected_is t w k r number b))
    (entered t w k r.0 b (length k.verdicts) lawful (ltb-true _ _ (and_parts (nat_lt r.0 (length t.sites)) (nat_le 1 number) fit).0) h)
linked_step t w k (Carry l d place) b lawful fit h = subst (AreLinked t) (sym (carried_is t w k l d place b))
    (carried t w k l.0 d place (slice_get (flying_on k l.0 d) place) lawful (ltb-true _ _ fit) h)
linked_step t w k (Lose l d place) b lawful fit h = subst (AreLinked t) (sym (lost_is t w k l d place b))
    (lost t k l.0 d place (sender (wiring_of t) l.0 d) (slice_get (flying_on k l.0 d) place) h)
linked_step t w k (LinkDown l) b lawful fit h =
    subst (AreLinked t) (sym (cut_is t w k l b))
    (cut_linked t (flying_on (cut t (before_step k) l.0 Forth) l.0 Back) (cut t (before_step k) l.0 Forth) (channel l.0 Back) (sender (wiring_of t) l.0 Back)
    (cut_linked t (flying_on (before_step k) l.0 Forth) (before_step k) (channel l.0 Forth) (sender (wiring_of t) l.0 Forth) h))
linked_step t w k _ b lawful fit h = h

pub none_linked : (t : Network) → AreLinked t no_packets
none_linked t zero = tt
none_linked t (suc j) = tt
