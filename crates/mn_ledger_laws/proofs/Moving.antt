-- A step by what it does to packets: which it leaves as they were, and what becomes of a frame that arrives.
use Rattle.std.proofs.Common.{ℕ, ◌≡◌, ◌≢◌, ◌-◌, ◌<◌, true, false, List, length, refl, sym, subst, Option, Some, None}
use Rattle.std.specs.Prelude.{◌==◌, nat_le, slice_get, ⊤}
use Rattle.mn_drops.specs.declared.drops.Rule.TheVariants as rule
use Rattle.mn_wiring.specs.declared.links.Dir.{Dir}
use Rattle.mn_wiring.specs.declared.links.Dir.TheVariants.{Forth, Back}
use Rattle.mn_base.specs.declared.numbers.LinkNo.{LinkNo}
use Rattle.mn_base.specs.declared.numbers.SiteNo.{SiteNo}
use Rattle.mn_wiring.specs.Wiring.{sender, receiver}
use Rattle.mn_topo.specs.Network.{Network, wiring_of}
use Rattle.mn_topo.specs.declared.steps.Step.{Step}
use Rattle.mn_topo.specs.declared.steps.Step.TheVariants.{LinkDown, Inject, Carry, Lose, Tick}
use Rattle.mn_ledger.specs.declared.verdict.Verdict.TheVariants.{Dropped}
use Rattle.mn_ledger.specs.Entry.{first_rule}
use Rattle.mn_ledger.specs.Places.{home_of, vrf_of}
use Rattle.mn_ledger.specs.World.{World}
use Rattle.mn_ledger.specs.Transport.{usable, sessions_after}
use Rattle.mn_ledger.specs.Bgp.{peerings_after}
use Rattle.mn_ledger.specs.Packets.{Token, Packets, channel, flying_on, drop_at, visited, deliver, hop_over, bound, entry_rules, enter_by, one_more, taken}
use Rattle.mn_ledger.specs.Packets.{is_attachment, arrive, carry, lose, cut, before_step, packets_after, stamped}
use Rattle.mn_ledger.specs.Ledger.{after}
use Rattle.mn_ledger.proofs.Members.{In}
use Rattle.mn_ledger_laws.proofs.Elsewhere.{Same, same_on, judged_off, deliver_off, visited_off, taken_same, hop_off, one_more_off, arms_by, arrived_off}
use Rattle.mn_ledger_laws.proofs.Elsewhere.{cut_off}
use Rattle.mn_ledger_laws.proofs.Expired.{IsYoung, later, timed_off}
use Rattle.mn_ledger_laws.proofs.Entering.{enters}
use Rattle.mn_ledger.proofs.Ended.{other_than}
use Rattle.mn_ledger.specs.Time.{timed_by}

-- 1. The steps that move packets change no world

-- once the step is done, whatever its entry
abbrev pub after_step : Network → World → Packets → Step → List ℕ → Packets
after_step t w k s b = packets_after t (after t w s) k s b

-- and time has gone on before
abbrev pub after_time : Network → ℕ → World → Packets → Step → List ℕ → Packets
after_time t clock w k s b = after_step t w (timed_by t clock s k) s b

pub injected_is : (t : Network) (w : World) (k : Packets) (r : SiteNo) (number : ℕ) (b : List ℕ)
    → after_step t w k (Inject r number) b
    ≡ enter_by t w (one_more (before_step k) (home_of t r.0)) (length k.verdicts) b (home_of t r.0) (vrf_of t r.0)
    (first_rule (entry_rules (w.config.attached r.0) b))
unfolding packets_after sessions_after peerings_after
injected_is t w k r number b = refl

pub carried_is : (t : Network) (w : World) (k : Packets) (l : LinkNo) (d : Dir) (place : ℕ) (b : List ℕ)
    → after_step t w k (Carry l d place) b ≡ carry t w (taken (before_step k) l.0 d place) (receiver (wiring_of t) l.0 d) (slice_get (flying_on k l.0 d) place)
unfolding packets_after sessions_after peerings_after
carried_is t w k l d place b = refl

pub lost_is : (t : Network) (w : World) (k : Packets) (l : LinkNo) (d : Dir) (place : ℕ) (b : List ℕ)
    → after_step t w k (Lose l d place) b ≡ lose (taken (before_step k) l.0 d place) (sender (wiring_of t) l.0 d) (slice_get (flying_on k l.0 d) place)
unfolding packets_after
lost_is t w k l d place b = refl

pub cut_is : (t : Network) (w : World) (k : Packets) (l : LinkNo) (b : List ℕ)
    → after_step t w k (LinkDown l) b ≡ cut t (cut t (before_step k) l.0 Forth) l.0 Back
unfolding packets_after
cut_is t w k l b = refl

pub ticked_is : (t : Network) (clock : ℕ) (w : World) (k : Packets) (ticks : ℕ) (b : List ℕ)
    → after_time t clock w k (Tick ticks) b ≡ before_step (timed_by t clock (Tick ticks) k)
unfolding packets_after
ticked_is t clock w k ticks b = refl

-- 2. Packets that a step leaves as they were

-- the step, by which the clock comes to this tick, doesn't take a frame of the packet
abbrev pub Leaves : Network → ℕ → ℕ → Packets → Step → Type 0
Leaves t clock j w (Carry l d place) = (k : Token) → slice_get (flying_on w l.0 d) place ≡ Some k → j ≢ k.packet
Leaves t clock j w (Lose l d place) = (k : Token) → slice_get (flying_on w l.0 d) place ≡ Some k → j ≢ k.packet
Leaves t clock j w (LinkDown l) = (d : Dir) (k : Token) → In (flying_on w l.0 d) k → k.packet ≢ j
Leaves t clock j w (Tick ticks) = IsYoung t clock j w
Leaves t clock j w _ = ⊤

begun : (j : ℕ) (w : Packets) (clock : ℕ) → Same j w (before_step (later w clock))
begun j w clock = record { verdict = refl; path = refl; frames = λ c k i e. i }

entered_off : (t : Network) (v : World) (w : Packets) (site : ℕ) (b : List ℕ) (j : ℕ) → j < length w.verdicts → j < length w.paths
    → Same j w (enter_by t v (one_more w (home_of t site)) (length w.verdicts) b (home_of t site) (vrf_of t site)
    (first_rule (entry_rules (v.config.attached site) b)))
entered_off t v w site b j h g =
    let u : Packets = one_more w (home_of t site) in
    let first : Same j w u = one_more_off w (home_of t site) j h g in
    let apart : j ≢ length w.verdicts = other_than j (length w.verdicts) h in
    enters (Same j w) t v u (length w.verdicts) site b (record {
      falls = λ cause f. same_on j w u _ first (judged_off u (length w.verdicts) (Dropped cause (record { 0 = home_of t site })) j apart);
      delivered = λ x p m e. same_on j w u _ first (deliver_off u (length w.verdicts) x.site _ b j apart);
      flies = λ x hop p m e q. same_on j w u _ first (hop_off t u (stamped u (bound (length w.verdicts) x b)) (home_of t site) rule.NoLsp (Some hop) j apart);
    })

carried_off : (t : Network) (v : World) (w : Packets) (l : ℕ) (d : Dir) (place y j : ℕ) (o : Option Token) → ((k : Token) → o ≡ Some k → j ≢ k.packet)
    → Same j w (carry t v (taken w l d place) y o)
carried_off t v w l d place y j None h = taken_same w l d place j
carried_off t v w l d place y j (Some k) h =
    same_on j w (taken w l d place) _ (taken_same w l d place j)
    (same_on j (taken w l d place) (visited (taken w l d place) k.packet y) _ (visited_off (taken w l d place) k.packet y j (h k refl))
    (arrived_off t v (visited (taken w l d place) k.packet y) k y j (h k refl)))

lost_off : (w : Packets) (l : ℕ) (d : Dir) (place n j : ℕ) (o : Option Token) → ((k : Token) → o ≡ Some k → j ≢ k.packet)
    → Same j w (lose (taken w l d place) n o)
lost_off w l d place n j None h = taken_same w l d place j
lost_off w l d place n j (Some k) h = same_on j w (taken w l d place) _ (taken_same w l d place j)
    (judged_off (taken w l d place) k.packet (Dropped rule.Lost (record { 0 = n })) j (h k refl))

one_cut : (t : Network) (w : Packets) (l : ℕ) (d : Dir) (j : ℕ) → ((k : Token) → In (flying_on w l d) k → k.packet ≢ j) → Same j w (cut t w l d)
one_cut t w l d j h = cut_off (flying_on w l d) w (channel l d) (sender (wiring_of t) l d) j h (λ k i. i)

both_cut : (t : Network) (w : Packets) (l j : ℕ) → ((d : Dir) (k : Token) → In (flying_on w l d) k → k.packet ≢ j) → Same j w (cut t (cut t w l Forth) l Back)
both_cut t w l j h =
    let first : Same j w (cut t w l Forth) = one_cut t w l Forth j (h Forth) in
    same_on j w (cut t w l Forth) _ first (one_cut t (cut t w l Forth) l Back j (λ k i e. h Back k (first.frames (channel l Back) k i e) e))

pub same_step : (t : Network) (clock : ℕ) (w : World) (k : Packets) (s : Step) (b : List ℕ) (j : ℕ) → j < length k.verdicts → j < length k.paths
    → Leaves t clock j k s → Same j k (after_time t clock w k s b)
unfolding packets_after
same_step t clock w k (Inject r number) b j h g n = subst (Same j k) (sym (injected_is t w (later k clock) r number b))
    (same_on j k (before_step (later k clock)) _ (begun j k clock) (entered_off t w (before_step (later k clock)) r.0 b j h g))
same_step t clock w k (Carry l d place) b j h g n =
    subst (Same j k) (sym (carried_is t w (later k clock) l d place b))
    (same_on j k (before_step (later k clock)) _ (begun j k clock)
    (carried_off t w (before_step (later k clock)) l.0 d place (receiver (wiring_of t) l.0 d) j (slice_get (flying_on k l.0 d) place) n))
same_step t clock w k (Lose l d place) b j h g n =
    subst (Same j k) (sym (lost_is t w (later k clock) l d place b))
    (same_on j k (before_step (later k clock)) _ (begun j k clock)
    (lost_off (before_step (later k clock)) l.0 d place (sender (wiring_of t) l.0 d) j (slice_get (flying_on k l.0 d) place) n))
same_step t clock w k (LinkDown l) b j h g n = subst (Same j k) (sym (cut_is t w (later k clock) l b))
    (same_on j k (before_step (later k clock)) _ (begun j k clock) (both_cut t (before_step (later k clock)) l.0 j n))
same_step t clock w k (Tick ticks) b j h g n =
    let off : Same j k (timed_by t clock (Tick ticks) k) = timed_off t clock ticks j k n in
    record { verdict = off.verdict; path = off.path; frames = off.frames }
same_step t clock w k _ b j h g n = begun j k clock

-- 3. A frame that arrives

-- what has to be shown of a frame that comes to a node, by what becomes of it
pub record AtArrival (P : Packets → Type 0) (t : Network) (w : World) (u : Packets) (k : Token) (y : ℕ) : Type 0 where
  pub expires : nat_le k.ttl 1 ≡ true → P (drop_at u k.packet rule.TtlExpired y)
  pub delivered : nat_le k.ttl 1 ≡ false → (y == k.edge) ≡ true → is_attachment (w.config.attached k.site) k.attachment ≡ true
      → P (deliver u k.packet k.site (k.ttl - 1) k.bytes)
  pub gone : nat_le k.ttl 1 ≡ false → (y == k.edge) ≡ true → is_attachment (w.config.attached k.site) k.attachment ≡ false
      → P (drop_at u k.packet rule.SiteGone y)
  pub stuck : nat_le k.ttl 1 ≡ false → (y == k.edge) ≡ false → usable t w.config w.views w.sessions y k.edge ≡ None → P (drop_at u k.packet rule.NoEntry y)
  pub flies : nat_le k.ttl 1 ≡ false → (y == k.edge) ≡ false → (hop : ℕ × ℕ) → usable t w.config w.views w.sessions y k.edge ≡ Some hop
      → P (hop_over t u (stamped u (record k { ttl = k.ttl - 1 })) y rule.NoEntry (Some hop))

hops : (P : Packets → Type 0) (t : Network) (w : World) (u : Packets) (k : Token) (y : ℕ) → AtArrival P t w u k y → nat_le k.ttl 1 ≡ false
    → (y == k.edge) ≡ false
    → (o : Option (ℕ × ℕ)) → usable t w.config w.views w.sessions y k.edge ≡ o → P (hop_over t u (stamped u (record k { ttl = k.ttl - 1 })) y rule.NoEntry o)
hops P t w u k y h a b None e = h.stuck a b e
hops P t w u k y h a b (Some hop) e = h.flies a b hop e

pub arrives : (P : Packets → Type 0) (t : Network) (w : World) (u : Packets) (k : Token) (y : ℕ) → AtArrival P t w u k y → P (arrive t w u k y)
arrives P t w u k y h =
    arms_by P (nat_le k.ttl 1) _ _ h.expires
    (λ a. arms_by P (y == k.edge) _ _ (λ b. arms_by P (is_attachment (w.config.attached k.site) k.attachment) _ _ (h.delivered a b) (h.gone a b))
    (λ b. hops P t w u k y h a b (usable t w.config w.views w.sessions y k.edge) refl))
