-- What a node counts of what is owed, and since when its FECs are at rest, as each kind of event happens to it.
use Rattle.std.proofs.Common.{ℕ, ◌≡◌, ◌≢◌, ◌+◌, ◌<◌, inl, inr, Bool, true, false, List, length, refl, arith, sym, ◌∙◌, ap, subst}
use Rattle.std.proofs.Common.{Option, Some, None}
use Rattle.std.specs.Prelude.{◌&&◌, ◌||◌, not, nat_le, slice_index_or}
use Rattle.std.proofs.lemmas.Bool.Decides.{eqb_tells}
use Rattle.mn_base.proofs.Bools.{clash, and_false, and_left, two_ways}
use Rattle.mn_base.proofs.Members.{In, in_filter, in_range, passes_none}
use Rattle.mn_wiring.specs.Wiring.{is_end, across, links_at, links_of, receiver}
use Rattle.mn_states.specs.declared.states.LdpState.{LdpState}
use Rattle.mn_topo.specs.Network.{Network, wiring_of}
use Rattle.mn_topo.specs.Lawful.{IsLawful}
use Rattle.mn_topo.specs.declared.steps.Step.{Step}
use Rattle.mn_topo.specs.declared.steps.Step.TheVariants as step
use Rattle.mn_base.specs.declared.numbers.LinkNo.{LinkNo}
use Rattle.mn_base.specs.declared.numbers.NodeNo.{NodeNo}
use Rattle.mn_wiring.specs.declared.links.Dir.{Dir}
use Rattle.mn_node.specs.Ldp.{Message, state_by, has_ldp_row}
use Rattle.mn_node.specs.Node.{Node, session_at}
use Rattle.mn_node.specs.Machine.{Learns, Opens, Closes, Hears}
use Rattle.mn_ledger.specs.World.{World, Config, Sessions}
use Rattle.mn_ledger.specs.Transport.{lives, is_active, ldp_counted, ldp_restarted}
use Rattle.mn_ledger.specs.Ledger.{after}
use Rattle.mn_ledger.specs.Turns.{EndsAreInTurn}
use Rattle.mn_ledger.proofs.Mentions.{operational-is}
use Rattle.mn_ledger.proofs.GoingBy.{pair_here, pair_off}
use Rattle.mn_ledger.proofs.OneKind.{one_passes}
use Rattle.mn_settled_laws.specs.Offers.{is_operational_on}
use Rattle.mn_releases.specs.Rests.{Resting, row_of}
use Rattle.mn_reuse_laws.specs.Answers.{is_release}
use Rattle.mn_reuse_laws.specs.Resting.{brings_release, ends_session}
use Rattle.mn_reuse_laws.proofs.Answering.{Released, anew_here, anew_off}
use Rattle.mn_reuse_laws.proofs.Blocking.{link_at}
use Rattle.mn_lsr.specs.Standing.{state_in}
use Rattle.mn_lsr.specs.Turns.{rested_by_event, rested_by_message, rested_by_end}
use Rattle.mn_transport_laws.specs.Resting.{IsResting, HasRow}
use Rattle.mn_transport_laws.proofs.Rows.{LeadsAlone}
use Rattle.mn_transport_laws.proofs.Owed.{IsSame, HearsOne, next_is, row-counts}
use Rattle.mn_transport_laws.proofs.Rested.{HasCounts, IsLong, is-same, row-same, row-none, row-heard, row-closed, message-off, end-off, message-long, end-long}
use Rattle.mn_transport_laws.proofs.Rested.{message-tick, message-still, end-tick, end-still}

-- 1. What an event makes of the rows and ticks, before anything is sent

pub record GoesBy (t : Network) (w : World) (k : Sessions) (tick m : ℕ) (lays : ℕ → Bool) (on_then : ℕ → Bool) (r next : Resting) : Type 0 where
  pub rows : (l : ℕ) → l < length t.links → is_end (wiring_of t) l m ≡ true → HasCounts t k l m (on_then l) (row_of next (across (wiring_of t) l m))
  pub strangers : (other : ℕ) →
      ((l : ℕ) → l < length t.links → is_end (wiring_of t) l m ≡ true → across (wiring_of t) l m ≢ other) → row_of next other ≡ row_of r other
  pub long : IsLong r next
  pub laid : (p : ℕ) → p < length t.loopbacks → lays p ≡ true → slice_index_or next.rested p 0 ≡ tick
  pub still : (p : ℕ) → p < length t.loopbacks → lays p ≡ false → slice_index_or next.rested p 0 ≡ slice_index_or r.rested p 0

-- OPERATIONAL by the session's life and by how much was received
abbrev pub is_on : Network → Config → Sessions → ℕ → ℕ → Bool
is_on t c k m l = (lives c l && is_end (wiring_of t) l m) && nat_le 2 (k.heard l m)

-- what lays a FEC to rest, but for the end of its offer
abbrev pub lays_by : Network → World → Step → ℕ → ℕ → Bool
lays_by t w s m p = brings_release t w s m p || ends_session t w s m

module _ (t : Network) (w : World) (m : ℕ) where
  before_on : (l : ℕ) → l < length t.links → is_operational_on t w m l ≡ is_on t w.config w.sessions m l
  before_on l below = operational-is (wiring_of t) w.config w.views w.sessions m l below

  pub rows-before : (rested : ℕ → ℕ) (r : Resting) → IsResting t w rested m r → (l : ℕ) → l < length t.links → is_end (wiring_of t) l m ≡ true →
      HasCounts t w.sessions l m (is_on t w.config w.sessions m l) (row_of r (across (wiring_of t) l m))
  rows-before rested r is l below at =
      subst (λ b. HasCounts t w.sessions l m b (row_of r (across (wiring_of t) l m))) (before_on l below)
      (counted (is_operational_on t w m l) (row_of r (across (wiring_of t) l m)) (is.rows l below at))
    where
      counted : (b : Bool) (row : Option (List ℕ)) → HasRow t w m l b row → HasCounts t w.sessions l m b row
      counted true row h = (h.0, h.1, row-counts t w m l h.0 h.2)
      counted false row h = h

  goes_on : (s : Step) (l : ℕ) → l < length t.links → (lives w.config l ≡ true → lives (after t w s).config l ≡ true) →
      (is_operational_on t w m l && not (lives (after t w s).config l)) ≡ false
  goes_on s l inside on = by (is_operational_on t w m l) (lives (after t w s).config l) (λ h. on
      (and_left (lives w.config l) (is_end (wiring_of t) l m)
      (and_left (lives w.config l && is_end (wiring_of t) l m) (nat_le 2 (w.sessions.heard l m)) (sym (before_on l inside) ∙ h))))
    where
      by : (a b : Bool) → (a ≡ true → b ≡ true) → (a && not b) ≡ false
      by true b h = ap not (h refl)
      by false b h = refl

  -- a session that lives on doesn't end
  pub lives_on : (s : Step) (l : ℕ) → l < length t.links → lives (after t w s).config l ≡ lives w.config l →
      (is_operational_on t w m l && not (lives (after t w s).config l)) ≡ false
  lives_on s l inside same = goes_on s l inside (λ h. same ∙ h)

  -- where each session that lived lives on, none ends
  pub none_ends : (s : Step) → ((l : ℕ) → l < length t.links → lives w.config l ≡ true → lives (after t w s).config l ≡ true) → ends_session t w s m ≡ false
  none_ends s on = passes_none (λ l. is_operational_on t w m l && not (lives (after t w s).config l)) (links_at (wiring_of t) m) (λ l i.
      let there = in_filter (λ k. is_end (wiring_of t) k m) (links_of (wiring_of t)) l i in
      let inside : l < length t.links = omega (arith, (in_range 0 (length t.links) l there.0).1) in
      goes_on s l inside (on l inside))

-- 2. It learns

pub goes-learn : (t : Network) (w : World) (node : NodeNo) (l : LinkNo) (tick m : ℕ) (rested : ℕ → ℕ) (n : Node) (r : Resting) → IsResting t w rested m r →
    GoesBy t w w.sessions tick m (lays_by t w (step.Learn node l) m) (is_on t w.config w.sessions m) r (rested_by_event (wiring_of t) tick n (Learns l.0) r)
goes-learn t w node l tick m rested n r is = record {
  rows = λ k below at. rows-before t w m rested r is k below at;
  strangers = λ other d. refl;
  long = is-same r;
  laid = λ p below h. absurd (clash (sym h ∙ none_ends t w m (step.Learn node l) (λ k inside on. on)));
  still = λ p below h. refl;
}

-- 3. A session opens or closes

module _ (t : Network) (w : World) (s : Step) (j m tick : ℕ) (inside : j < length t.links) (ends : is_end (wiring_of t) j m ≡ true)
    (others : (l : ℕ) → l ≢ j → lives (after t w s).config l ≡ lives w.config l) (brings : (p : ℕ) → brings_release t w s m p ≡ false)
    (leads : LeadsAlone (wiring_of t) m j (across (wiring_of t) j m)) (rested : ℕ →
    ℕ) (n : Node) (me : n.me ≡ m) (r : Resting) (is : IsResting t w rested m r) where
  same_off : (l : ℕ) → l ≢ j → IsSame t w.sessions (ldp_restarted w.sessions j) l m
  same_off l d = record {
    heard = (anew_off w.sessions j l m d).1;
    own = (anew_off w.sessions j l m d).0;
    far = (anew_off w.sessions j l (across (wiring_of t) l m) d).0;
  }

  on_off : (l : ℕ) → l ≢ j → is_on t (after t w s).config (ldp_restarted w.sessions j) m l ≡ is_on t w.config w.sessions m l
  on_off l d =
      ap (λ b. (b && is_end (wiring_of t) l m) && nat_le 2 ((ldp_restarted w.sessions j).heard l m)) (others l d)
      ∙ ap (λ h. (lives w.config l && is_end (wiring_of t) l m) && nat_le 2 h) (anew_off w.sessions j l m d).1

  on_here : is_on t (after t w s).config (ldp_restarted w.sessions j) m j ≡ false
  on_here = ap (λ h. (lives (after t w s).config j && is_end (wiring_of t) j m) && nat_le 2 h) (anew_here w.sessions j m).1
      ∙ and_false (lives (after t w s).config j && is_end (wiring_of t) j m)

  apart : (l : ℕ) → l < length t.links → is_end (wiring_of t) l m ≡ true → l ≢ j → across (wiring_of t) l m ≢ across (wiring_of t) j m
  apart l below at d e = d (leads.alone l below at e)

  to_far : across (wiring_of t) j n.me ≡ across (wiring_of t) j m
  to_far = ap (across (wiring_of t) j) me

  pub goes-open : lives w.config j ≡ false →
      GoesBy t w (ldp_restarted w.sessions j) tick m (lays_by t w s m) (is_on t (after t w s).config (ldp_restarted w.sessions j) m) r
      (rested_by_event (wiring_of t) tick n (Opens j) r)
  goes-open dead = record {
    rows = λ l below at. elim (eqb_tells l j) [
      | inl p ↦ subst (λ i. HasCounts t (ldp_restarted w.sessions j) i m (is_on t (after t w s).config (ldp_restarted w.sessions j) m i)
          (row_of r (across (wiring_of t) i m)))
          (sym p.1) (row-none t (ldp_restarted w.sessions j) j m _ _ on_here none)
      | inr p ↦ row-same t w.sessions (ldp_restarted w.sessions j) l m _ _ (row_of r (across (wiring_of t) l m)) _ (on_off l p.1) (same_off l p.1) refl
          (rows-before t w m rested r is l below at)
    ];
    strangers = λ other d. refl;
    long = is-same r;
    laid = λ p below h. absurd (clash (sym h ∙ ap (λ b. b || ends_session t w s m) (brings p) ∙ none_ends t w m s live_on));
    still = λ p below h. refl;
  }
    where
      none : row_of r (across (wiring_of t) j m) ≡ None
      none = subst (λ b. HasCounts t w.sessions j m ((b && is_end (wiring_of t) j m) && nat_le 2 (w.sessions.heard j m)) (row_of r (across (wiring_of t) j m)))
          dead
          (rows-before t w m rested r is j inside ends)

      live_on : (l : ℕ) → l < length t.links → lives w.config l ≡ true → lives (after t w s).config l ≡ true
      live_on l below h = elim (eqb_tells l j) [
        | inl p ↦ absurd (clash (sym h ∙ ap (lives w.config) p.1 ∙ dead))
        | inr p ↦ others l p.1 ∙ h
      ]

  pub goes-close : lives w.config j ≡ true → lives (after t w s).config j ≡ false →
      state_in (session_at n j) ≡ Some (state_by (is_active t j m) (w.sessions.heard j m)) → across (wiring_of t) j m < length r.owed →
      length r.rested ≡ length t.loopbacks →
      GoesBy t w (ldp_restarted w.sessions j) tick m (lays_by t w s m) (is_on t (after t w s).config (ldp_restarted w.sessions j) m) r
      (rested_by_event (wiring_of t) tick n (Closes j) r)
  goes-close alive dies state far_inside each_fec =
      subst (λ x. GoesBy t w (ldp_restarted w.sessions j) tick m (lays_by t w s m) (is_on t (after t w s).config (ldp_restarted w.sessions j) m) r x)
      (sym (ap (λ o. rested_by_end tick o (across (wiring_of t) j n.me) r) state ∙ ap (λ f. rested_by_end tick (Some st) f r) to_far)) (record {
        rows = λ l below at. elim (eqb_tells l j) [
          | inl p ↦ subst (λ i. HasCounts t (ldp_restarted w.sessions j) i m (is_on t (after t w s).config (ldp_restarted w.sessions j) m i)
              (row_of (rested_by_end tick (Some st) (across (wiring_of t) j m) r) (across (wiring_of t) i m)))
              (sym p.1) (row-none t (ldp_restarted w.sessions j) j m _ _ on_here
              (row-closed t w.sessions j m tick (across (wiring_of t) j m) (is_active t j m) r (w.sessions.heard j m) far_inside was))
          | inr p ↦ row-same t w.sessions (ldp_restarted w.sessions j) l m _ _ (row_of r (across (wiring_of t) l m)) _ (on_off l p.1) (same_off l p.1)
              (end-off tick (Some st) (across (wiring_of t) j m) (across (wiring_of t) l m) r (apart l below at p.1)) (rows-before t w m rested r is l below at)
        ];
        strangers = λ other d. end-off tick (Some st) (across (wiring_of t) j m) other r (λ e. d j inside ends (sym e));
        long = end-long tick (Some st) (across (wiring_of t) j m) r;
        laid = λ p below h. end-tick tick (across (wiring_of t) j m) p (is_active t j m) (w.sessions.heard j m) r (subst (λ x. p < x) (sym each_fec) below)
            (sym many ∙ sym ended ∙ sym (ap (λ b. b || ends_session t w s m) (brings p)) ∙ h);
        still = λ p below h. end-still tick (across (wiring_of t) j m) p (is_active t j m) (w.sessions.heard j m) r
            (sym many ∙ sym ended ∙ sym (ap (λ b. b || ends_session t w s m) (brings p)) ∙ h);
      })
    where
      st : LdpState
      st = state_by (is_active t j m) (w.sessions.heard j m)

      many : is_operational_on t w m j ≡ nat_le 2 (w.sessions.heard j m)
      many = before_on t w m j inside ∙ ap (λ b. (b && is_end (wiring_of t) j m) && nat_le 2 (w.sessions.heard j m)) alive
          ∙ ap (λ b. b && nat_le 2 (w.sessions.heard j m)) ends

      was : HasCounts t w.sessions j m (nat_le 2 (w.sessions.heard j m)) (row_of r (across (wiring_of t) j m))
      was = subst (λ b. HasCounts t w.sessions j m b (row_of r (across (wiring_of t) j m)))
          (ap (λ b. (b && is_end (wiring_of t) j m) && nat_le 2 (w.sessions.heard j m)) alive ∙ ap (λ b. b && nat_le 2 (w.sessions.heard j m)) ends)
          (rows-before t w m rested r is j inside ends)

      -- a session of the node ends where this one was OPERATIONAL
      ended : ends_session t w s m ≡ is_operational_on t w m j
      ended = elim (two_ways (is_operational_on t w m j)) [
        | inl on ↦ one_passes (λ l. is_operational_on t w m l && not (lives (after t w s).config l)) (links_at (wiring_of t) m) j (link_at t j m inside ends)
            (ap (λ b. b && not (lives (after t w s).config j)) on ∙ ap not dies) ∙ sym on
        | inr off ↦ passes_none (λ l. is_operational_on t w m l && not (lives (after t w s).config l)) (links_at (wiring_of t) m) (each off) ∙ sym off
      ]
        where
          each : is_operational_on t w m j ≡ false → (l : ℕ) → In (links_at (wiring_of t) m) l →
              (is_operational_on t w m l && not (lives (after t w s).config l)) ≡ false
          each off l i = elim (eqb_tells l j) [
            | inl p ↦ ap (λ k. is_operational_on t w m k && not (lives (after t w s).config k)) p.1 ∙ ap (λ b. b && not (lives (after t w s).config j)) off
            | inr p ↦
                let there = in_filter (λ k. is_end (wiring_of t) k m) (links_of (wiring_of t)) l i in
                let below : l < length t.links = omega (arith, (in_range 0 (length t.links) l there.0).1) in
                by (is_operational_on t w m l) (lives (after t w s).config l) (λ h. others l p.1
                ∙ and_left (lives w.config l) (is_end (wiring_of t) l m)
                (and_left (lives w.config l && is_end (wiring_of t) l m) (nat_le 2 (w.sessions.heard l m)) (sym (before_on t w m l below) ∙ h)))
          ]
            where
              by : (a b : Bool) → (a ≡ true → b ≡ true) → (a && not b) ≡ false
              by true b h = ap not (h refl)
              by false b h = refl

-- 4. It receives a message

module _ (t : Network) (lawful : IsLawful t) (w : World) (j : LinkNo) (dir : Dir) (tick label : ℕ) (message : Message)
    (inside : j.0 < length t.links) (free : Released t w.sessions) (turn : EndsAreInTurn t w.config w.sessions) where
  abbrev at : ℕ
  at = receiver (wiring_of t) j.0 dir

  abbrev then_k : Sessions
  then_k = ldp_counted t w.sessions (step.HearLdp j dir)

  module _ (ends : is_end (wiring_of t) j.0 (receiver (wiring_of t) j.0 dir) ≡ true) (alive : lives w.config j.0 ≡ true)
      (more : w.sessions.heard j.0 (receiver (wiring_of t) j.0 dir) < length (w.sessions.said j.0 (across (wiring_of t) j.0 (receiver (wiring_of t) j.0 dir))))
      (is_next : next_is t w.sessions j.0 (receiver (wiring_of t) j.0 dir) ≡ message)
      (has : has_ldp_row (state_by (is_active t j.0 (receiver (wiring_of t) j.0 dir)) (w.sessions.heard j.0 (receiver (wiring_of t) j.0 dir))) message ≡ true)
      (brings : (p : ℕ) → brings_release t w (step.HearLdp j dir) (receiver (wiring_of t) j.0 dir) p ≡ is_release p message)
      (leads : LeadsAlone (wiring_of t) (receiver (wiring_of t) j.0 dir) j.0 (across (wiring_of t) j.0 (receiver (wiring_of t) j.0 dir)))
      (rested : ℕ → ℕ) (n : Node) (me : n.me ≡ receiver (wiring_of t) j.0 dir) (r : Resting) (is : IsResting t w rested (receiver (wiring_of t) j.0 dir) r)
      (state : state_in (session_at n j.0)
      ≡ Some (state_by (is_active t j.0 (receiver (wiring_of t) j.0 dir)) (w.sessions.heard j.0 (receiver (wiring_of t) j.0 dir))))
      (far_inside : across (wiring_of t) j.0 (receiver (wiring_of t) j.0 dir) < length r.owed) (each_fec : length r.rested ≡ length t.loopbacks) where
    abbrev st : LdpState
    st = state_by (is_active t j.0 at) (w.sessions.heard j.0 at)

    hears : HearsOne t w.sessions then_k j.0 at
    hears = record { heard = pair_here w.sessions.heard j.0 at (w.sessions.heard j.0 at + 1); own = refl; far = refl; more = more }

    same_by : (l : ℕ) → l ≢ j.0 → IsSame t w.sessions then_k l at
    same_by l d = record { heard = pair_off w.sessions.heard j.0 at (w.sessions.heard j.0 at + 1) l at (inl d); own = refl; far = refl }

    on_by : (l : ℕ) → l ≢ j.0 → is_on t w.config then_k at l ≡ is_on t w.config w.sessions at l
    on_by l d = ap (λ h. (lives w.config l && is_end (wiring_of t) l at) && nat_le 2 h) (same_by l d).heard

    on_at : is_on t w.config then_k at j.0 ≡ nat_le 2 (w.sessions.heard j.0 at + 1)
    on_at = ap (λ h. (lives w.config j.0 && is_end (wiring_of t) j.0 at) && nat_le 2 h) hears.heard
        ∙ ap (λ b. (b && is_end (wiring_of t) j.0 at) && nat_le 2 (w.sessions.heard j.0 at + 1)) alive
        ∙ ap (λ b. b && nat_le 2 (w.sessions.heard j.0 at + 1)) ends

    was : HasCounts t w.sessions j.0 at (nat_le 2 (w.sessions.heard j.0 at)) (row_of r (across (wiring_of t) j.0 at))
    was = subst (λ b. HasCounts t w.sessions j.0 at b (row_of r (across (wiring_of t) j.0 at)))
        (ap (λ b. (b && is_end (wiring_of t) j.0 at) && nat_le 2 (w.sessions.heard j.0 at)) alive ∙ ap (λ b. b && nat_le 2 (w.sessions.heard j.0 at)) ends)
        (rows-before t w at rested r is j.0 inside ends)

    here : HasCounts t then_k j.0 at (is_on t w.config then_k at j.0) (row_of (rested_by_message tick message (Some st) (across (wiring_of t) j.0 at) r)
        (across (wiring_of t) j.0 at))
    here = subst (λ b. HasCounts t then_k j.0 at b (row_of (rested_by_message tick message (Some st) (across (wiring_of t) j.0 at) r)
        (across (wiring_of t) j.0 at))) (sym on_at)
        (row-heard t w.sessions then_k j.0 at tick lawful message r free inside ends hears is_next (w.sessions.heard j.0 at) refl has
        ((turn j.0 at inside ends).talk alive)
        far_inside each_fec was)

    none : ends_session t w (step.HearLdp j dir) at ≡ false
    none = none_ends t w at (step.HearLdp j dir) (λ l below on. on)

    lays : (p : ℕ) → lays_by t w (step.HearLdp j dir) at p ≡ is_release p message
    lays p = ap (λ b. brings_release t w (step.HearLdp j dir) at p || b) none ∙ or_false (brings_release t w (step.HearLdp j dir) at p) ∙ brings p
      where
        or_false : (b : Bool) → (b || false) ≡ b
        or_false true = refl
        or_false false = refl

    pub goes-hear : GoesBy t w then_k tick at (lays_by t w (step.HearLdp j dir) at) (is_on t w.config then_k at) r
        (rested_by_event (wiring_of t) tick n (Hears j.0 message label) r)
    goes-hear =
        subst (λ x. GoesBy t w then_k tick at (lays_by t w (step.HearLdp j dir) at) (is_on t w.config then_k at) r x)
        (sym (ap (λ o. rested_by_message tick message o (across (wiring_of t) j.0 n.me) r) state
        ∙ ap (λ f. rested_by_message tick message (Some st) (across (wiring_of t) j.0 f) r) me)) (record {
          rows = λ l below end. elim (eqb_tells l j.0) [
            | inl p ↦ subst (λ i. HasCounts t then_k i at (is_on t w.config then_k at i)
                (row_of (rested_by_message tick message (Some st) (across (wiring_of t) j.0 at) r) (across (wiring_of t) i at))) (sym p.1) here
            | inr p ↦ row-same t w.sessions then_k l at _ _ (row_of r (across (wiring_of t) l at)) _ (on_by l p.1) (same_by l p.1)
                (message-off tick message (Some st) (across (wiring_of t) j.0 at) (across (wiring_of t) l at) r (λ e. p.1 (leads.alone l below end e)))
                (rows-before t w at rested r is l below end)
          ];
          strangers = λ other d. message-off tick message (Some st) (across (wiring_of t) j.0 at) other r (λ e. d j.0 inside ends (sym e));
          long = message-long tick message (Some st) (across (wiring_of t) j.0 at) r;
          laid = λ p below h. message-tick tick message (Some st) (across (wiring_of t) j.0 at) p r (subst (λ x. p < x) (sym each_fec) below) (sym (lays p)
              ∙ h);
          still = λ p below h. message-still tick message (Some st) (across (wiring_of t) j.0 at) p r (sym (lays p) ∙ h);
        })
