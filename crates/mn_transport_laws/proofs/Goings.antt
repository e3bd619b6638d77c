-- What each step of the transport makes of what a node counts, before anything is sent.
use Rattle.std.proofs.Common.{ℕ, zero, suc, ◌≡◌, ◌≢◌, ◌+◌, ◌<◌, inl, inr, Bool, true, false, List, [], ◌∷◌, length, refl, arith, sym, ◌∙◌, ap, subst}
use Rattle.std.proofs.Common.{Option, Some, None}
use Rattle.std.specs.Prelude.{◌==◌, ◌&&◌, ◌||◌, not, nat_le, if◌then◌else◌, option_map, slice_index_or}
use Rattle.std.proofs.lemmas.Bool.Decides.{eqb_tells}
use Rattle.mn_base.proofs.Bools.{clash, and_off_left, less_tells, not_at_most_tells, or_off, other_test, same_test, two_ways}
use Rattle.mn_base.proofs.Members.{in_filter, in_range, passes_none}
use Rattle.mn_wiring.specs.Wiring.{Wiring, link, is_end, across, sender, receiver, links_at, links_of}
use Rattle.mn_wiring.specs.declared.links.Dir.{Dir}
use Rattle.mn_base.specs.declared.numbers.LinkNo.{LinkNo}
use Rattle.mn_topo.specs.Network.{Network, wiring_of}
use Rattle.mn_topo.specs.Lawful.{IsLawful}
use Rattle.mn_topo.specs.declared.steps.Step.{Step}
use Rattle.mn_topo.specs.declared.steps.Step.TheVariants as step
use Rattle.mn_node.specs.Ldp.{Address, state_by}
use Rattle.mn_node.specs.Node.{Session, Node, session_at}
use Rattle.mn_node.specs.Machine.{Event, Learns, Opens, Closes}
use Rattle.mn_ledger.specs.World.{World, Sessions}
use Rattle.mn_ledger.specs.Transport.{is_transport, lives, is_active, ldp_counted, ldp_restarted}
use Rattle.mn_ledger.specs.Ledger.{after}
use Rattle.mn_ledger.specs.Refusal.{agree}
use Rattle.mn_ledger.proofs.Turning.{dir_ends, across-end}
use Rattle.mn_ledger.proofs.GoingBy.{put_here, put_off, pair_off}
use Rattle.mn_ledger.proofs.InTurn.{rows}
use Rattle.mn_settled_laws.specs.Offers.{is_operational_on}
use Rattle.mn_settled_laws.proofs.Offering.{ends_below}
use Rattle.mn_slice_laws.specs.Slice.{node_at, event_of, turned, hears_next, next_heard}
use Rattle.mn_slice_laws.proofs.Changing.{session_at-is}
use Rattle.mn_releases.specs.Rests.{Resting, row_of}
use Rattle.mn_reuse_laws.specs.Answers.{is_release}
use Rattle.mn_reuse_laws.specs.Resting.{brings_release, ends_session}
use Rattle.mn_reuse_laws.specs.Relabelled.{Labelling, session_with, sessions_with, node_with, event_with, label_with}
use Rattle.mn_reuse_laws.proofs.Answering.{Released, anew_off}
use Rattle.mn_lsr.specs.Standing.{state_in}
use Rattle.mn_lsr.specs.Turns.{rested_by_event}
use Rattle.mn_transport_laws.specs.Resting.{IsResting}
use Rattle.mn_transport_laws.specs.Steps.{IsTurn}
use Rattle.mn_transport_laws.proofs.Rows.{LeadsAlone}
use Rattle.mn_transport_laws.proofs.Owed.{leads-alone}
use Rattle.mn_transport_laws.proofs.Rested.{HasCounts, is-same, row-same, row-none}
use Rattle.mn_transport_laws.proofs.Counting.{GoesBy, is_on, lays_by, rows-before, none_ends, lives_on, goes-learn, goes-open, goes-close, goes-hear}

-- what an event, or none, makes of what a node counts
abbrev pub rested_any : Wiring → ℕ → Node → Option Event → Resting → Resting
rested_any wiring tick node None r = r
rested_any wiring tick node (Some event) r = rested_by_event wiring tick node event r

-- 1. A node with other labels has the same sessions

at-link : (w : Wiring) (g : Labelling) (me : ℕ) (ss : List (Option Session)) (l k : ℕ)
    → slice_index_or (sessions_with w g me l ss) k None ≡ option_map (session_with (g (across w (l + k) me))) (slice_index_or ss k None)
at-link w g me [] l k = refl
at-link w g me (s ∷ ss) l zero = ap (λ n. option_map (session_with (g (across w n me))) s) (let e : l ≡ l + 0 = omega arith in e)
at-link w g me (s ∷ ss) l (suc k) = at-link w g me ss (l + 1) k
    ∙ ap (λ n. option_map (session_with (g (across w n me))) (slice_index_or ss k None)) (let e : l + 1 + k ≡ l + suc k = omega arith in e)

pub session-with : (w : Wiring) (g : Labelling) (node : Node) (l : ℕ) →
    session_at (node_with w g node) l ≡ option_map (session_with (g (across w l node.me))) (session_at node l)
session-with w g node l = at-link w g node.me node.sessions 0 l
    ∙ ap (λ n. option_map (session_with (g (across w n node.me))) (session_at node l)) (let e : 0 + l ≡ l = omega arith in e)

same-state : (f : ℕ → ℕ) (o : Option Session) → state_in (option_map (session_with f) o) ≡ state_in o
same-state f None = refl
same-state f (Some s) = refl

pub state-with : (t : Network) (w : World) (g : Labelling) (m l : ℕ) → l < length t.links → lives w.config l ≡ true → is_end (wiring_of t) l m ≡ true →
    state_in (session_at (node_with (wiring_of t) g (node_at t w m)) l) ≡ Some (state_by (is_active t l m) (w.sessions.heard l m))
state-with t w g m l below alive end =
    ap state_in (session-with (wiring_of t) g (node_at t w m) l)
    ∙ same-state (g (across (wiring_of t) l m)) (session_at (node_at t w m) l)
    ∙ ap state_in (session_at-is t w.config w.views w.sessions m l below)
    ∙ by (lives w.config l) (is_end (wiring_of t) l m) alive end _
  where
    by : (a b : Bool) → a ≡ true → b ≡ true → (s : Session) → state_in (if a && b then Some s else None) ≡ Some s.state
    by true true e f s = refl
    by true false e f s = cc
    by false b e f s = cc

-- 2. Each kind of step

switched : (up was on : Bool) → agree on was ≡ false → (up && was) ≡ true → (up && on) ≡ false
switched true true true a h = absurd (clash a)
switched true true false a h = refl
switched true false on a h = cc
switched false was on a h = cc

module _ (t : Network) (lawful : IsLawful t) (w : World) (s : Step) (g : Labelling) (m tick : ℕ) (below : m < length t.loopbacks) (turn : IsTurn t w s)
    (rested : ℕ → ℕ) (r : Resting) (is : IsResting t w rested m r) where
  abbrev node : Node
  node = node_with (wiring_of t) g (node_at t w m)

  abbrev Goes : Option Event → Type 0
  Goes o = GoesBy t w (ldp_counted t w.sessions s) tick m (lays_by t w s m) (is_on t (after t w s).config (ldp_counted t w.sessions s) m) r
      (rested_any (wiring_of t) tick node (option_map (event_with (wiring_of t) g m) o) r)

  pub leads : (l : ℕ) → l < length t.links → is_end (wiring_of t) l m ≡ true → LeadsAlone (wiring_of t) m l (across (wiring_of t) l m)
  leads l inside at = leads-alone (wiring_of t) m l lawful.joins_once below (far l inside) inside at
    where
      far : (l : ℕ) → l < length t.links → across (wiring_of t) l m < length t.loopbacks
      far l h = by ((link (wiring_of t) l).a.0 == m)
        where
          by : (b : Bool) → (if b then (link (wiring_of t) l).b.0 else (link (wiring_of t) l).a.0) < length t.loopbacks
          by true = (lawful.joins_nodes l h).1
          by false = (lawful.joins_nodes l h).0

  module _ (j : ℕ) (inside : j < length t.links) (counts_are : ldp_counted t w.sessions s ≡ ldp_restarted w.sessions j)
      (others : (l : ℕ) → l ≢ j → lives (after t w s).config l ≡ lives w.config l) (once : lives w.config j ≡ true → lives (after t w s).config j ≡ false)
      (brings : (p : ℕ) → brings_release t w s m p ≡ false) where
    as_counted : (o : Option Event) →
        GoesBy t w (ldp_restarted w.sessions j) tick m (lays_by t w s m) (is_on t (after t w s).config (ldp_restarted w.sessions j) m) r
        (rested_any (wiring_of t) tick node (option_map (event_with (wiring_of t) g m) o) r) → Goes o
    as_counted o = subst (λ (k : Sessions). GoesBy t w k tick m (lays_by t w s m) (is_on t (after t w s).config k m) r
        (rested_any (wiring_of t) tick node (option_map (event_with (wiring_of t) g m) o) r)) (sym counts_are)

    -- its links but this one are as they were
    row_off : (l : ℕ) → l < length t.links → is_end (wiring_of t) l m ≡ true → l ≢ j →
        HasCounts t (ldp_restarted w.sessions j) l m (is_on t (after t w s).config (ldp_restarted w.sessions j) m l) (row_of r (across (wiring_of t) l m))
    row_off l under at d = row-same t w.sessions (ldp_restarted w.sessions j) l m _ _ (row_of r (across (wiring_of t) l m)) _
        (ap (λ b. (b && is_end (wiring_of t) l m) && nat_le 2 ((ldp_restarted w.sessions j).heard l m)) (others l d)
        ∙ ap (λ h. (lives w.config l && is_end (wiring_of t) l m) && nat_le 2 h) (anew_off w.sessions j l m d).1)
        (record {
          heard = (anew_off w.sessions j l m d).1;
          own = (anew_off w.sessions j l m d).0;
          far =
              (anew_off w.sessions j l (across (wiring_of t) l m) d).0;
        })
        refl (rows-before t w m rested r is l under at)

    no_session : ((l : ℕ) → l < length t.links → lives w.config l ≡ true → lives (after t w s).config l ≡ true) → ends_session t w s m ≡ false
    no_session = none_ends t w m s

    -- at a node that isn't its end nothing changes
    elsewhere : is_end (wiring_of t) j m ≡ false → Goes None
    elsewhere off = as_counted None (record {
      rows = λ l under at. row_off l under at (λ e. clash (sym at ∙ ap (λ k. is_end (wiring_of t) k m) e ∙ off));
      strangers = λ other d. refl;
      long = is-same r;
      laid = λ p under h. absurd (clash (sym h ∙ ap (λ b. b || ends_session t w s m) (brings p) ∙ none));
      still = λ p under h. refl;
    })
      where
        none : ends_session t w s m ≡ false
        none = passes_none
            (λ l. is_operational_on t w m l && not (lives (after t w s).config l)) (links_at (wiring_of t) m) (λ l i.
            let there = in_filter (λ k. is_end (wiring_of t) k m) (links_of (wiring_of t)) l i in
            let under : l < length t.links = omega (arith, (in_range 0 (length t.links) l there.0).1) in
            lives_on t w m s l under (others l (λ e. clash (sym there.1 ∙ ap (λ k. is_end (wiring_of t) k m) e ∙ off))))

    -- nor where the session lives neither before nor after
    dead_still : lives w.config j ≡ false → lives (after t w s).config j ≡ false → Goes None
    dead_still dead still_dead = as_counted None (record {
      rows = λ l under at. elim (eqb_tells l j) [
        | inr p ↦ row_off l under at p.1
        | inl p ↦ subst (λ i. HasCounts t (ldp_restarted w.sessions j) i m (is_on t (after t w s).config (ldp_restarted w.sessions j) m i)
            (row_of r (across (wiring_of t) i m)))
            (sym p.1) (row-none t (ldp_restarted w.sessions j) j m _ _
            (ap (λ b. (b && is_end (wiring_of t) j m) && nat_le 2 ((ldp_restarted w.sessions j).heard j m)) still_dead)
            (subst (λ b. HasCounts t w.sessions j m ((b && is_end (wiring_of t) j m) && nat_le 2 (w.sessions.heard j m)) (row_of r (across (wiring_of t) j m)))
            dead
            (rows-before t w m rested r is j inside (subst (λ k. is_end (wiring_of t) k m ≡ true) p.1 at))))
      ];
      strangers = λ other d. refl;
      long = is-same r;
      laid = λ p under h. absurd (clash (sym h ∙ ap (λ b. b || ends_session t w s m) (brings p) ∙ no_session (λ l under on. elim (eqb_tells l j) [
        | inl q ↦ absurd (clash (sym on ∙ ap (lives w.config) q.1 ∙ dead))
        | inr q ↦ others l q.1 ∙ on
      ])));
      still = λ p under h. refl;
    })

    pub turned-goes : (o : Option Event) → (if is_end (wiring_of t) j m then turned j (lives w.config j) (lives (after t w s).config j) else None) ≡ o → Goes o
    turned-goes o e = elim (two_ways (is_end (wiring_of t) j m)) [
      | inr off ↦ subst Goes (sym (ap (λ b. if b then turned j (lives w.config j) (lives (after t w s).config j) else None) off) ∙ e) (elsewhere off)
      | inl on ↦ by on (lives w.config j) (lives (after t w s).config j) refl refl
          (sym (ap (λ b. if b then turned j (lives w.config j) (lives (after t w s).config j) else None) on) ∙ e)
    ]
      where
        by : is_end (wiring_of t) j m ≡ true → (a b : Bool) → lives w.config j ≡ a → lives (after t w s).config j ≡ b → turned j a b ≡ o → Goes o
        by on false false x y q = subst Goes q (dead_still x y)
        by on true true x y q = absurd (clash (sym y ∙ once x))
        by on false true x y q = subst Goes q (as_counted (Some (Opens j))
            (goes-open t w s j m tick inside on others brings (leads j inside on) rested node refl r is x))
        by on true false x y q = subst Goes q (as_counted (Some (Closes j))
            (goes-close t w s j m tick inside on others brings (leads j inside on) rested node refl r is x y
            (state-with t w g m j inside x on) (subst (λ n. across (wiring_of t) j m < n) (sym is.neighbours)
            (ends_below t lawful.joins_nodes j (across (wiring_of t) j m) inside (across-end (wiring_of t) j m (lawful.ends_differ j inside) on).0)) is.fecs))

-- 3. All of them

module _ (t : Network) (lawful : IsLawful t) (w : World) (g : Labelling) (tick : ℕ) (j : LinkNo) (dir : Dir) (turn : IsTurn t w (step.HearLdp j dir))
    (rested : ℕ → ℕ) (r : Resting) (free : Released t w.sessions) where
  abbrev reach : ℕ
  reach = receiver (wiring_of t) j.0 dir

  inside : j.0 < length t.links
  inside = less_tells j.0 (length t.links) turn.fitting

  ends : (is_end (wiring_of t) j.0 (receiver (wiring_of t) j.0 dir) ≡ true) × (across (wiring_of t) j.0 (receiver (wiring_of t) j.0 dir)
      ≡ sender (wiring_of t) j.0 dir)
  ends = dir_ends (wiring_of t) j.0 dir (lawful.ends_differ j.0 inside)

  waits : (not (lives w.config j.0) ≡ false)
      × (nat_le (length (w.sessions.said j.0 (sender (wiring_of t) j.0 dir))) (w.sessions.heard j.0 (receiver (wiring_of t) j.0 dir)) ≡ false)
  waits = or_off (not (lives w.config j.0))
      (nat_le (length (w.sessions.said j.0 (sender (wiring_of t) j.0 dir))) (w.sessions.heard j.0 (receiver (wiring_of t) j.0 dir))) turn.there

  alive : lives w.config j.0 ≡ true
  alive = was_on (lives w.config j.0) waits.0
    where
      was_on : (b : Bool) → not b ≡ false → b ≡ true
      was_on true q = refl
      was_on false q = cc

  more : w.sessions.heard j.0 (receiver (wiring_of t) j.0 dir) < length (w.sessions.said j.0 (across (wiring_of t) j.0 (receiver (wiring_of t) j.0 dir)))
  more = subst (λ n. w.sessions.heard j.0 (receiver (wiring_of t) j.0 dir) < length (w.sessions.said j.0 n)) (sym ends.1)
      (not_at_most_tells (length (w.sessions.said j.0 (sender (wiring_of t) j.0 dir))) (w.sessions.heard j.0 (receiver (wiring_of t) j.0 dir)) waits.1)

  brings : (p : ℕ) → brings_release t w (step.HearLdp j dir) (receiver (wiring_of t) j.0 dir) p ≡ is_release p
      (next_heard t w j.0 (receiver (wiring_of t) j.0 dir))
  brings p =
      ap (λ b. b && is_release p (slice_index_or (w.sessions.said j.0 (sender (wiring_of t) j.0 dir)) (w.sessions.heard j.0 (receiver (wiring_of t) j.0 dir))
      Address))
      (same_test (receiver (wiring_of t) j.0 dir))
      ∙ ap (λ n. is_release p (slice_index_or (w.sessions.said j.0 n) (w.sessions.heard j.0 (receiver (wiring_of t) j.0 dir)) Address)) (sym ends.1)

  -- what is received by the node that receives in the direction
  Heard : ℕ → Type 0
  Heard x = x < length t.loopbacks → IsResting t w rested x r →
      GoesBy t w (ldp_counted t w.sessions (step.HearLdp j dir)) tick x (lays_by t w (step.HearLdp j dir) x)
      (is_on t w.config (ldp_counted t w.sessions (step.HearLdp j dir)) x) r
      (rested_any (wiring_of t) tick (node_with (wiring_of t) g (node_at t w x)) (option_map (event_with (wiring_of t) g x) (Some (hears_next t w j.0 x))) r)

  heard_here : Heard (receiver (wiring_of t) j.0 dir)
  unfolding Heard
  heard_here below is =
      goes-hear t lawful w j dir tick (label_with (g (across (wiring_of t) j.0 reach)) (next_heard t w j.0 reach)) (next_heard t w j.0 reach)
      inside free turn.turn.ldp ends.0 alive more refl
      ((rows t w lawful turn.turn).ldp j.0 reach inside ends.0 alive more) brings
      (leads t lawful w (step.HearLdp j dir) g reach tick below turn rested r is j.0 inside ends.0) rested
      (node_with (wiring_of t) g (node_at t w reach)) refl r is (state-with t w g reach j.0 inside alive ends.0)
      (subst (λ n. across (wiring_of t) j.0 reach < n) (sym is.neighbours)
      (ends_below t lawful.joins_nodes j.0 (across (wiring_of t) j.0 reach) inside
      (across-end (wiring_of t) j.0 reach (lawful.ends_differ j.0 inside) ends.0).0))
      is.fecs

  heard_by : (m : ℕ) → receiver (wiring_of t) j.0 dir ≡ m → Heard m
  heard_by m e = subst Heard e heard_here

  -- another node's sessions are as they were
  unheard : (m : ℕ) → receiver (wiring_of t) j.0 dir ≢ m → IsResting t w rested m r →
      GoesBy t w (ldp_counted t w.sessions (step.HearLdp j dir)) tick m (lays_by t w (step.HearLdp j dir) m)
      (is_on t w.config (ldp_counted t w.sessions (step.HearLdp j dir)) m) r r
  unheard m d is = record {
    rows = λ l under at. row-same t w.sessions (ldp_counted t w.sessions (step.HearLdp j dir)) l m _ _ (row_of r (across (wiring_of t) l m)) _
        (ap (λ h. (lives w.config l && is_end (wiring_of t) l m) && nat_le 2 h) (still l))
        (record { heard = still l; own = refl; far = refl }) refl (rows-before t w m rested r is l under at);
    strangers = λ other d. refl;
    long = is-same r;
    laid = λ p under h. absurd (clash (sym h
        ∙ ap (λ b. (b && is_release p (slice_index_or (w.sessions.said j.0 (sender (wiring_of t) j.0 dir)) (w.sessions.heard j.0 m) Address))
        || ends_session t w (step.HearLdp j dir) m)
        (other_test (receiver (wiring_of t) j.0 dir) m d)
        ∙ none_ends t w m (step.HearLdp j dir) (λ l under on. on)));
    still = λ p under h. refl;
  }
    where
      still : (l : ℕ) → (ldp_counted t w.sessions (step.HearLdp j dir)).heard l m ≡ w.sessions.heard l m
      still l = pair_off w.sessions.heard j.0 (receiver (wiring_of t) j.0 dir) (w.sessions.heard j.0 (receiver (wiring_of t) j.0 dir) + 1) l m
          (inr (λ e. d (sym e)))

abbrev pub GoesAny : Network → World → Step → Labelling → ℕ → ℕ → Resting → Option Event → Type 0
GoesAny t w s g m tick r o =
    GoesBy t w (ldp_counted t w.sessions s) tick m (lays_by t w s m) (is_on t (after t w s).config (ldp_counted t w.sessions s) m) r
    (rested_any (wiring_of t) tick (node_with (wiring_of t) g (node_at t w m)) (option_map (event_with (wiring_of t) g m) o) r)

pub goes-any : (t : Network) (lawful : IsLawful t) (w : World) (s : Step) (g : Labelling) (m tick : ℕ) → m < length t.loopbacks → IsTurn t w s →
    is_transport s ≡ true →
    Released t w.sessions → (rested : ℕ → ℕ) (r : Resting) → IsResting t w rested m r → (o : Option Event) → event_of t w s m ≡ o → GoesAny t w s g m tick r o
unfolding Heard
goes-any t lawful w (step.LinkUp l) g m tick below turn moves free rested r is o e =
    turned-goes t lawful w (step.LinkUp l) g m tick below turn rested r is l.0 (less_tells l.0 (length t.links) turn.fitting) refl
    (λ k d. ap (λ b. b && w.config.ldp_on k) (put_off w.config.is_up l.0 true k d))
    (λ h. absurd (clash (sym h ∙ and_off_left (w.config.is_up l.0) (w.config.ldp_on l.0) turn.changes))) (λ p. refl) o e
goes-any t lawful w (step.LinkDown l) g m tick below turn moves free rested r is o e =
    turned-goes t lawful w (step.LinkDown l) g m tick below turn rested r is l.0 (less_tells l.0 (length t.links) turn.fitting) refl
    (λ k d. ap (λ b. b && w.config.ldp_on k) (put_off w.config.is_up l.0 false k d))
    (λ h. ap (λ b. b && w.config.ldp_on l.0) (put_here w.config.is_up l.0 false)) (λ p. refl) o e
goes-any t lawful w (step.LdpAdmin l on) g m tick below turn moves free rested r is o e =
    turned-goes t lawful w (step.LdpAdmin l on) g m tick below turn rested r is l.0 (less_tells l.0 (length t.links) turn.fitting) refl
    (λ k d. ap (λ b. w.config.is_up k && b) (put_off w.config.ldp_on l.0 on k d))
    (λ h. ap (λ b. w.config.is_up l.0 && b) (put_here w.config.ldp_on l.0 on)
    ∙ switched (w.config.is_up l.0) (w.config.ldp_on l.0) on turn.changes h) (λ p. refl) o e
goes-any t lawful w (step.Learn n l) g m tick below turn moves free rested r is o e =
    subst (GoesAny t w (step.Learn n l) g m tick r) e (by (n.0 == m))
  where
    by : (b : Bool) → GoesAny t w (step.Learn n l) g m tick r (if b then Some (Learns l.0) else None)
    by true = goes-learn t w n l tick m rested (node_with (wiring_of t) g (node_at t w m)) r is
    by false = goes-learn t w n l tick m rested (node_with (wiring_of t) g (node_at t w m)) r is
goes-any t lawful w (step.HearLdp j dir) g m tick below turn moves free rested r is o e = elim (eqb_tells (receiver (wiring_of t) j.0 dir) m) [
  | inl p ↦ subst (GoesAny t w (step.HearLdp j dir) g m tick r) (sym (ap (λ b. if b then Some (hears_next t w j.0 m) else None) p.0) ∙ e)
      (heard_by t lawful w g tick j dir turn rested r free m p.1 below is)
  | inr p ↦ subst (GoesAny t w (step.HearLdp j dir) g m tick r) (sym (ap (λ b. if b then Some (hears_next t w j.0 m) else None) p.0) ∙ e)
      (unheard t lawful w g tick j dir turn rested r free m p.1 is)
]
goes-any t lawful w _ g m tick below turn moves free rested r is o e = cc
