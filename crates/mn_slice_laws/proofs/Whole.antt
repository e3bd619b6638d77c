-- Every step, for every node; and in which order the nodes speak.
use Rattle.std.proofs.Common.{ℕ, ◌≡◌, ◌≢◌, ◌+◌, ◌<◌, ◌≤◌, ◌⊎◌, inl, inr, Bool, true, false, List, [], ◌∷◌, ◌++◌, length, map, refl, arith, sym, ◌∙◌, ap}
use Rattle.std.proofs.Common.{subst, append-nil, Option, Some, None}
use Rattle.std.specs.Prelude.{◌==◌, ◌&&◌, ◌||◌, not, nat_lt, nat_le, slice_index_or, if◌then◌else◌}
use Rattle.std.specs.List.{flat_map}
use Rattle.std.proofs.lemmas.Bool.Decides.{eqb_tells}
use Rattle.std.proofs.lemmas.List.Elements.{filter-append}
use Rattle.mn_base.proofs.Bools.{and_left, and_off_left, and_right, less_tells, other_test, clash}
use Rattle.mn_wiring.specs.Wiring.{nodes_of, link, is_end, across, sender, receiver}
use Rattle.mn_topo.specs.Network.{Network, wiring_of}
use Rattle.mn_topo.specs.Lawful.{IsLawful}
use Rattle.mn_topo.specs.Steps.{fits}
use Rattle.mn_topo.specs.declared.steps.Step.{Step}
use Rattle.mn_topo.specs.declared.steps.Step.TheVariants as step
use Rattle.mn_ledger.specs.Tables.{put, put_pair}
use Rattle.mn_ledger.specs.World.{World, Config, Sessions}
use Rattle.mn_ledger.specs.Transport.{is_transport, lives, is_active, ldp_state_of, heard_by, opening, answered, knowledge_of, ends_first, said_in}
use Rattle.mn_ledger.specs.Transport.{ldp_restarted}
use Rattle.mn_ledger.specs.Transport.{ldp_counted, with_said, sessions_after, views_after}
use Rattle.mn_ledger.specs.Packets.{Packets}
use Rattle.mn_ledger.specs.Ledger.{config_after, after}
use Rattle.mn_ledger.specs.Refusal.{is_unchanged, is_empty, agree}
use Rattle.mn_ledger.specs.Turns.{IsInTurn, HasRows}
use Rattle.mn_ledger.specs.Quiet.{said_by}
use Rattle.mn_ledger.proofs.Turning.{loopbacks_apart, opener, end_is, is_end-a, is_end-b, dir_ends}
use Rattle.mn_ledger.proofs.GoingBy.{put_here, put_off, pair_here, pair_off, or_both, not_false, above}
use Rattle.mn_node.specs.Ldp.{Message, Initialization, Address, Said, said_on, answer, news}
use Rattle.mn_node.specs.Node.{Session, Node, session_at, knowledge_in}
use Rattle.mn_node.specs.Machine.{Event, Learns, Opens, answer_in, after_any, said_any}
use Rattle.mn_slice_laws.specs.Slice.{label_heard, session_of, node_of, node_at, next_heard, hears_next, turned, at_end, event_of, acting}
use Rattle.mn_node.proofs.Lists.{flat_map-one}
use Rattle.mn_slice_laws.proofs.Known.{news-is}
use Rattle.mn_slice_laws.proofs.Saying.{HeardWithin}
use Rattle.mn_slice_laws.proofs.Changing.{changed_any, session_at-is, learn_here, learn_elsewhere, life, hear_here, hear_elsewhere}
use Rattle.mn_node.proofs.News.{EachBy, by-append, by-said, by-news, part_of, part_none, part_all, no_news}
use Rattle.mn_slice_laws.proofs.Own.{part_of_all, all_left_out}
use Rattle.mn_node.proofs.Opening.{opening_is_no_news}
use Rattle.mn_slice_laws.proofs.Steps.{answers_any, part-is, node-is, life-part, opening_if}

-- 1. What a lawful step owes

-- LDP is switched, so one of the two lives isn't
switched : (up was on : Bool) → agree on was ≡ false → (up && was) ≡ true → (up && on) ≡ false
switched true true true a h = absurd (clash a)
switched true true false a h = refl
switched true false on a h = cc
switched false was on a h = refl

-- a message is there to be received
pub record IsThere (t : Network) (w : World) (l m : ℕ) : Type 0 where
  pub within : l < length t.links
  pub at_end : is_end (wiring_of t) l m ≡ true
  pub alive : lives w.config l ≡ true
  pub more : w.sessions.heard l m < length (w.sessions.said l (across (wiring_of t) l m))

-- a step begins or ends the life of this link's session alone
pub record TurnsLife (t : Network) (w : World) (s : Step) (l : ℕ) : Type 0 where
  pub within : l < length t.links
  pub others : (k : ℕ) → k ≢ l → lives (config_after w.config s) k ≡ lives w.config k
  pub once : lives w.config l ≡ true → lives (config_after w.config s) l ≡ false

abbrev first_word : ℕ → ℕ → List Said
first_word l n = said_on l n (Initialization ∷ [])

session-off-life : (t : Network) (c : Config) (s : Sessions) (m l : ℕ) → lives c l ≡ false → session_of t c s m l ≡ None
session-off-life t c s m l e = by (lives c l) e
  where
    by : (alive : Bool) → alive ≡ false
        → (let o : Option Session =
        if alive && is_end (wiring_of t) l m then Some (record {
          state = ldp_state_of t s l m;
          said = length (s.said l m);
          labels =
              map (label_heard (across (wiring_of t) l m) (heard_by (wiring_of t) s l m)) (nodes_of (wiring_of t));
        }) else None in o) ≡ None
    by false e = refl
    by true e = cc

end-there : (t : Network) → IsLawful t → (l m : ℕ) → l < length t.links → is_end (wiring_of t) l m ≡ true → m < length t.loopbacks
end-there t lawful l m below e = elim (end_is (wiring_of t) l m e) [
  | inl p ↦ subst (λ n. n < length t.loopbacks) p (lawful.joins_nodes l below).0
  | inr p ↦ subst (λ n. n < length t.loopbacks) p (lawful.joins_nodes l below).1
]

module _ (t : Network) (lawful : IsLawful t) (w : World) (packets : Packets) (turn : IsInTurn t w) (rows : HasRows t w) where
  there-is : (l : ℕ) (r other : ℕ) → l < length t.links → (is_end (wiring_of t) l r ≡ true) × (across (wiring_of t) l r ≡ other)
      → (not (lives w.config l) || nat_le (length (w.sessions.said l other)) (w.sessions.heard l r)) ≡ false → IsThere t w l r
  there-is l r other below ends full =
      let parts = or_both (not (lives w.config l)) (nat_le (length (w.sessions.said l other)) (w.sessions.heard l r)) full in
      record {
        within = below;
        at_end = ends.0;
        alive = not_false (lives w.config l) parts.0;
        more = subst (λ n. w.sessions.heard l r < length (w.sessions.said l n)) (sym ends.1)
            (above (length (w.sessions.said l other)) (w.sessions.heard l r) parts.1);
      }

  abbrev settled : Step → ℕ → Node
  settled s m = node_of t (config_after w.config s) (views_after w.views s) (ldp_counted t w.sessions s) m

  abbrev happens : Step → ℕ → Option Event
  happens s m = event_of t w s m

  -- 2. What each node keeps, before anything is sent

  learn-changes : (n l m : ℕ) → l < length t.links
      → node_of t w.config (record w.views { learned = put_pair w.views.learned n l (w.views.learned n l + 1) }) w.sessions m ≡ changed_any (wiring_of t)
      (node_at t w m) (if n == m then Some (Learns l) else None)
  learn-changes n l m below = elim (eqb_tells n m) [
    | inl p ↦
        subst (λ x. node_of t w.config (record w.views { learned = put_pair w.views.learned n l (w.views.learned n l + 1) }) w.sessions x ≡ changed_any
        (wiring_of t) (node_at t w x) (Some (Learns l))) p.1 (learn_here t w.config w.views w.sessions n l below)
        ∙ sym (ap (λ b. changed_any (wiring_of t) (node_at t w m) (if b then Some (Learns l) else None)) p.0)
    | inr p ↦
        learn_elsewhere t w.config w.views w.sessions n l m (λ q. p.1 (sym q))
        ∙ sym (ap (λ b. changed_any (wiring_of t) (node_at t w m) (if b then Some (Learns l) else None)) p.0)
  ]

  abbrev hears : ℕ → ℕ → Option Event
  hears l m = Some (hears_next t w l m)

  hear-changes : (l r m : ℕ) → IsThere t w l r
      → node_of t w.config w.views (record w.sessions { heard = put_pair w.sessions.heard l r (w.sessions.heard l r + 1) }) m ≡ changed_any (wiring_of t)
      (node_at t w m) (if r == m then hears l m else None)
  hear-changes l r m h = elim (eqb_tells r m) [
    | inl p ↦
        subst (λ x. node_of t w.config w.views (record w.sessions { heard = put_pair w.sessions.heard l r (w.sessions.heard l r + 1) }) x ≡ changed_any
        (wiring_of t) (node_at t w x) (hears l x)) p.1
        (hear_here t w.config w.views w.sessions l r h.within h.alive h.at_end h.more (rows.ldp l r h.within h.at_end h.alive h.more))
        ∙ sym (ap (λ b. changed_any (wiring_of t) (node_at t w m) (if b then hears l m else None)) p.0)
    | inr p ↦
        hear_elsewhere t w.config w.views w.sessions l r m (λ q. p.1 (sym q))
        ∙ sym (ap (λ b. changed_any (wiring_of t) (node_at t w m) (if b then hears l m else None)) p.0)
  ]

  up-turns : (l : _) → fits t (step.LinkUp l) ≡ true → is_unchanged w.config (step.LinkUp l) ≡ false → TurnsLife t w (step.LinkUp l) l.0
  up-turns l fit new = record {
    within = less_tells l.0 (length t.links) fit;
    others = λ j d. ap (λ b. b && w.config.ldp_on j) (put_off w.config.is_up l.0 true j d);
    once = λ h. absurd (clash (sym h ∙ and_off_left (w.config.is_up l.0) (w.config.ldp_on l.0) new));
  }

  down-turns : (l : _) → fits t (step.LinkDown l) ≡ true → TurnsLife t w (step.LinkDown l) l.0
  down-turns l fit = record {
    within = less_tells l.0 (length t.links) fit;
    others = λ j d. ap (λ b. b && w.config.ldp_on j) (put_off w.config.is_up l.0 false j d);
    once = λ h. and_off_left (put w.config.is_up l.0 false l.0) (w.config.ldp_on l.0) (put_here w.config.is_up l.0 false);
  }

  switch-turns : (l : _) (on : Bool) → fits t (step.LdpAdmin l on) ≡ true → is_unchanged w.config (step.LdpAdmin l on) ≡ false →
      TurnsLife t w (step.LdpAdmin l on) l.0
  switch-turns l on fit new = record {
    within = less_tells l.0 (length t.links) fit;
    others = λ j d. ap (λ b. w.config.is_up j && b) (put_off w.config.ldp_on l.0 on j d);
    once = λ h. ap (λ b. w.config.is_up l.0 && b) (put_here w.config.ldp_on l.0 on) ∙ switched (w.config.is_up l.0) (w.config.ldp_on l.0) on new h;
  }

  heard-there : (l : _) (dir : _) → fits t (step.HearLdp l dir) ≡ true → is_empty t w packets (step.HearLdp l dir) ≡ false →
      IsThere t w l.0 (receiver (wiring_of t) l.0 dir)
  heard-there l dir fit full =
      let below = less_tells l.0 (length t.links) fit in
      there-is l.0 (receiver (wiring_of t) l.0 dir) (sender (wiring_of t) l.0 dir) below (dir_ends (wiring_of t) l.0 dir (lawful.ends_differ l.0 below)) full

  pub changes : (s : Step) → fits t s ≡ true → is_unchanged w.config s ≡ false → is_empty t w packets s ≡ false →
      (m : ℕ) → settled s m ≡ changed_any (wiring_of t) (node_at t w m) (happens s m)
  changes (step.Learn n l) fit new full m =
      learn-changes n.0 l.0 m (less_tells l.0 (length t.links) (and_right (nat_lt n.0 (length t.loopbacks)) (nat_lt l.0 (length t.links)) fit))
  changes (step.LinkUp l) fit new full m = let h = up-turns l fit new in
      life t w.config (config_after w.config (step.LinkUp l)) w.views (views_after w.views (step.LinkUp l)) w.sessions l.0 m refl h.others h.once
  changes (step.LinkDown l) fit new full m = let h = down-turns l fit in
      life t w.config (config_after w.config (step.LinkDown l)) w.views (views_after w.views (step.LinkDown l)) w.sessions l.0 m refl h.others h.once
  changes (step.LdpAdmin l on) fit new full m = let h = switch-turns l on fit new in
      life t w.config (config_after w.config (step.LdpAdmin l on)) w.views w.views w.sessions l.0 m refl h.others h.once
  changes (step.HearLdp l dir) fit new full m = hear-changes l.0 (receiver (wiring_of t) l.0 dir) m (heard-there l dir fit full)
  changes _ fit new full m = refl

  -- 3. What each node says

  abbrev all_news : Step → ℕ → List Said
  all_news s n =
      news (wiring_of t) (knowledge_of (wiring_of t) w.config w.views w.sessions n)
      (knowledge_of (wiring_of t) (config_after w.config s) (views_after w.views s) (ldp_counted t w.sessions s) n) n

  by_all : (s : Step) (n : ℕ) → EachBy n (all_news s n)
  by_all s n =
      by-news (wiring_of t) (knowledge_of (wiring_of t) w.config w.views w.sessions n)
      (knowledge_of (wiring_of t) (config_after w.config s) (views_after w.views s) (ldp_counted t w.sessions s) n) n

  -- a step in which nodes speak in node order
  plain : (s : Step) (m : ℕ) (xs : List Said) → m < length t.loopbacks → part_of m xs ≡ answers_any (wiring_of t) (node_at t w m) (happens s m) →
      settled s m ≡ changed_any (wiring_of t) (node_at t w m) (happens s m)
      → part_of m (xs ++ flat_map (all_news s) (nodes_of (wiring_of t))) ≡ said_any (wiring_of t) (node_at t w m) (happens s m)
  plain s m xs below f h =
      part-is t w.config (config_after w.config s) w.views (views_after w.views s) w.sessions (ldp_counted t w.sessions s) m (happens s m) xs
      (flat_map (all_news s) (nodes_of (wiring_of t)))
      f (part_of_all (all_news s) (by_all s) m (length t.loopbacks) below) h

  no_answers : (n m l : ℕ) → [] ≡ answers_any (wiring_of t) (node_at t w m) (if n == m then Some (Learns l) else None)
  no_answers n m l = by (n == m)
    where
      by : (b : Bool) → [] ≡ answers_any (wiring_of t) (node_at t w m) (if b then Some (Learns l) else None)
      by true = refl
      by false = refl

  state-there : (l r : ℕ) → IsThere t w l r →
      (message : Message) → answer (ldp_state_of t w.sessions l r) message ≡ answer_in (session_at (node_at t w r) l) message
  state-there l r h message =
      sym (ap (λ o. answer_in o message) (at_once (lives w.config l) (is_end (wiring_of t) l r) h.alive h.at_end))
      ∙ sym (ap (λ o. answer_in o message) (session_at-is t w.config w.views w.sessions r l h.within))
    where
      at_once : (on end : Bool) → on ≡ true → end ≡ true
          → (let o : Option Session =
          if on && end then Some (record {
            state = ldp_state_of t w.sessions l r;
            said = length (w.sessions.said l r);
            labels =
                map (label_heard (across (wiring_of t) l r) (heard_by (wiring_of t) w.sessions l r)) (nodes_of (wiring_of t));
          }) else None in o)
          ≡ (let o : Option Session =
          Some (record {
            state = ldp_state_of t w.sessions l r;
            said = length (w.sessions.said l r);
            labels =
                map (label_heard (across (wiring_of t) l r) (heard_by (wiring_of t) w.sessions l r)) (nodes_of (wiring_of t));
          }) in o)
      at_once true true e f = refl
      at_once true false e f = cc
      at_once false end e f = cc

  answers-heard : (l r other m : ℕ) → IsThere t w l r → across (wiring_of t) l r ≡ other
      → part_of m (answered t w.sessions l r other) ≡ answers_any (wiring_of t) (node_at t w m) (if r == m then hears l m else None)
  answers-heard l r other m h far = elim (eqb_tells r m) [
    | inl p ↦
        subst (λ x. part_of x (answered t w.sessions l r other) ≡ answers_any (wiring_of t) (node_at t w x) (hears l x)) p.1
        (part_all r (answered t w.sessions l r other)
        (by-said l r (answer (ldp_state_of t w.sessions l r) (slice_index_or (w.sessions.said l other) (w.sessions.heard l r) Address)))
        ∙ ap (λ n. said_on l r (answer (ldp_state_of t w.sessions l r) (slice_index_or (w.sessions.said l n) (w.sessions.heard l r) Address))) (sym far)
        ∙ ap (said_on l r) (state-there l r h (next_heard t w l r)))
        ∙ sym (ap (λ b. answers_any (wiring_of t) (node_at t w m) (if b then hears l m else None)) p.0)
    | inr p ↦
        part_none r m (answered t w.sessions l r other) p.1
        (by-said l r (answer (ldp_state_of t w.sessions l r) (slice_index_or (w.sessions.said l other) (w.sessions.heard l r) Address)))
        ∙ sym (ap (λ b. answers_any (wiring_of t) (node_at t w m) (if b then hears l m else None)) p.0)
  ]

  life-says : (s : Step) (l m : ℕ) → m < length t.loopbacks → TurnsLife t w s l → ldp_counted t w.sessions s ≡ ldp_restarted w.sessions l →
      (views_after w.views s).learned m ≡ w.views.learned m
      → (xs : List Said) → xs ≡ opening t (config_after w.config s) l
      → part_of m (xs ++ flat_map (all_news s) (ends_first (wiring_of t) l))
      ≡ said_any (wiring_of t) (node_at t w m) (if is_end (wiring_of t) l m then turned l (lives w.config l) (lives (config_after w.config s) l) else None)
  life-says s l m below h is learned xs e =
      ap (λ ys. part_of m (ys ++ flat_map (all_news s) (ends_first (wiring_of t) l))) e
      ∙ ap (λ k. part_of m
      (opening t (config_after w.config s) l ++ flat_map
      (λ n. news (wiring_of t) (knowledge_of (wiring_of t) w.config w.views w.sessions n)
      (knowledge_of (wiring_of t) (config_after w.config s) (views_after w.views s) k n) n) (ends_first (wiring_of t) l))) is
      ∙ life-part t l (loopbacks_apart t lawful) lawful.joins_nodes lawful.ends_differ h.within w.config (config_after w.config s) w.views
      (views_after w.views s) w.sessions m below learned h.others h.once

  no_opening : (l : _) → fits t (step.LinkDown l) ≡ true → [] ≡ opening t (config_after w.config (step.LinkDown l)) l.0
  no_opening l fit =
      sym (opening_if t l.0 (loopbacks_apart t lawful) lawful.joins_nodes lawful.ends_differ (less_tells l.0 (length t.links) fit)
      (config_after w.config (step.LinkDown l)) false
      (and_off_left (put w.config.is_up l.0 false l.0) (w.config.ldp_on l.0) (put_here w.config.is_up l.0 false)))

  -- each node's part of what is sent in a step is what it says as that happens to it
  pub speaks : (s : Step) → fits t s ≡ true → is_unchanged w.config s ≡ false → is_empty t w packets s ≡ false →
      (m : ℕ) → m < length t.loopbacks → said_by t w s m ≡ said_any (wiring_of t) (node_at t w m) (happens s m)
  speaks (step.Learn n l) fit new full m below = plain (step.Learn n l) m [] below (no_answers n.0 m l.0) (changes (step.Learn n l) fit new full m)
  speaks (step.HearLdp l dir) fit new full m below =
      let r : ℕ = receiver (wiring_of t) l.0 dir in
      let h = heard-there l dir fit full in
      plain (step.HearLdp l dir) m (answered t w.sessions l.0 r (sender (wiring_of t) l.0 dir)) below
      (answers-heard l.0 r (sender (wiring_of t) l.0 dir) m h (dir_ends (wiring_of t) l.0 dir (lawful.ends_differ l.0 h.within)).1)
      (changes (step.HearLdp l dir) fit new full m)
  speaks (step.LinkUp l) fit new full m below =
      life-says (step.LinkUp l) l.0 m below (up-turns l fit new) refl refl (opening t (config_after w.config (step.LinkUp l)) l.0) refl
  speaks (step.LinkDown l) fit new full m below = life-says (step.LinkDown l) l.0 m below (down-turns l fit) refl refl [] (no_opening l fit)
  speaks (step.LdpAdmin l on) fit new full m below =
      life-says (step.LdpAdmin l on) l.0 m below (switch-turns l on fit new) refl refl (opening t (config_after w.config (step.LdpAdmin l on)) l.0) refl
  speaks (step.BgpUp x y) fit new full m below = plain (step.BgpUp x y) m [] below refl refl
  speaks (step.BgpDown x y) fit new full m below = plain (step.BgpDown x y) m [] below refl refl
  speaks (step.HearBgp x y) fit new full m below = plain (step.HearBgp x y) m [] below refl refl
  speaks (step.AddRoute x y) fit new full m below = plain (step.AddRoute x y) m [] below refl refl
  speaks (step.DelRoute x y) fit new full m below = plain (step.DelRoute x y) m [] below refl refl
  speaks (step.Import x on y) fit new full m below = plain (step.Import x on y) m [] below refl refl
  speaks (step.Export x on y) fit new full m below = plain (step.Export x on y) m [] below refl refl
  speaks (step.Attach x) fit new full m below = plain (step.Attach x) m [] below refl refl
  speaks (step.Detach x) fit new full m below = plain (step.Detach x) m [] below refl refl
  speaks (step.Inject x y) fit new full m below = plain (step.Inject x y) m [] below refl refl
  speaks (step.Carry x y z) fit new full m below = plain (step.Carry x y z) m [] below refl refl
  speaks (step.Lose x y z) fit new full m below = plain (step.Lose x y z) m [] below refl refl
  speaks (step.Tick ticks) fit new full m below = plain (step.Tick ticks) m [] below refl refl

  -- 4. What each node keeps after the step

  within-now : HeardWithin t w.config w.sessions
  within-now l n below at_end = (turn.ldp l n below at_end).heard

  within-anew : (c : Config) (l : ℕ) → HeardWithin t c (ldp_restarted w.sessions l)
  within-anew c l k n below at_end = elim (eqb_tells k l) [
    | inl p ↦ subst (λ x. x ≤ length ((ldp_restarted w.sessions l).said k (across (wiring_of t) k n)))
        (sym (ap (λ j. put w.sessions.heard l (λ node. 0) j n) p.1 ∙ ap (λ f. f n) (put_here w.sessions.heard l (λ node. 0)))) (omega arith)
    | inr p ↦ subst (λ x. x ≤ length ((ldp_restarted w.sessions l).said k (across (wiring_of t) k n)))
        (sym (ap (λ f. f n) (put_off w.sessions.heard l (λ node. 0) k p.1)))
        (subst (λ f. w.sessions.heard k n ≤ length (f (across (wiring_of t) k n))) (sym (put_off w.sessions.said l (λ node. []) k p.1))
        ((turn.ldp k n below at_end).heard))
  ]

  within-heard : (l r : ℕ) → IsThere t w l r → HeardWithin t w.config (record w.sessions { heard = put_pair w.sessions.heard l r (w.sessions.heard l r + 1) })
  within-heard l r h k n below at_end = elim (eqb_tells k l) [
    | inr p ↦ off (inl p.1)
    | inl p ↦ elim (eqb_tells n r) [
      | inr q ↦ off (inr q.1)
      | inl q ↦ subst (λ j. put_pair w.sessions.heard l r (w.sessions.heard l r + 1) j n ≤ length (w.sessions.said j (across (wiring_of t) j n))) (sym p.1)
          (subst (λ j. put_pair w.sessions.heard l r (w.sessions.heard l r + 1) l j ≤ length (w.sessions.said l (across (wiring_of t) l j))) (sym q.1)
          (subst (λ x. x ≤ length (w.sessions.said l (across (wiring_of t) l r))) (sym (pair_here w.sessions.heard l r (w.sessions.heard l r + 1)))
          (reach h.more)))
    ]
  ]
    where
      off : (k ≢ l) ⊎ (n ≢ r) → put_pair w.sessions.heard l r (w.sessions.heard l r + 1) k n ≤ length (w.sessions.said k (across (wiring_of t) k n))
      off d = subst (λ x. x ≤ length (w.sessions.said k (across (wiring_of t) k n))) (sym (pair_off w.sessions.heard l r (w.sessions.heard l r + 1) k n d))
          ((turn.ldp k n below at_end).heard)

      reach : w.sessions.heard l r < length (w.sessions.said l (across (wiring_of t) l r)) →
          w.sessions.heard l r + 1 ≤ length (w.sessions.said l (across (wiring_of t) l r))
      reach g = omega (arith, g)

  goes_by : (s : Step) → fits t s ≡ true → is_unchanged w.config s ≡ false → is_empty t w packets s ≡ false →
      (m : ℕ) → m < length t.loopbacks → HeardWithin t (config_after w.config s) (ldp_counted t w.sessions s)
      → node_of t (config_after w.config s) (views_after w.views s)
      (with_said (ldp_counted t w.sessions s)
      (said_in t w.config w.views w.sessions (config_after w.config s) (views_after w.views s) (ldp_counted t w.sessions s) s)) m ≡ after_any (wiring_of t)
      (node_at t w m) (happens s m)
  goes_by s fit new full m below within =
      node-is t w.config (config_after w.config s) w.views (views_after w.views s) w.sessions (ldp_counted t w.sessions s) m (happens s m)
      (said_in t w.config w.views w.sessions (config_after w.config s) (views_after w.views s) (ldp_counted t w.sessions s) s) within
      (speaks s fit new full m below) (changes s fit new full m)

  -- each node after a step is the node before it, after what happens to it
  pub goes : (s : Step) → fits t s ≡ true → is_unchanged w.config s ≡ false → is_empty t w packets s ≡ false →
      (m : ℕ) → m < length t.loopbacks → node_at t (after t w s) m ≡ after_any (wiring_of t) (node_at t w m) (happens s m)
  unfolding sessions_after
  goes (step.Learn n l) fit new full m below = goes_by (step.Learn n l) fit new full m below within-now
  goes (step.LinkUp l) fit new full m below = goes_by (step.LinkUp l) fit new full m below (within-anew (config_after w.config (step.LinkUp l)) l.0)
  goes (step.LinkDown l) fit new full m below = goes_by (step.LinkDown l) fit new full m below (within-anew (config_after w.config (step.LinkDown l)) l.0)
  goes (step.LdpAdmin l on) fit new full m below =
      goes_by (step.LdpAdmin l on) fit new full m below (within-anew (config_after w.config (step.LdpAdmin l on)) l.0)
  goes (step.HearLdp l dir) fit new full m below =
      goes_by (step.HearLdp l dir) fit new full m below (within-heard l.0 (receiver (wiring_of t) l.0 dir) (heard-there l dir fit full))
  goes _ fit new full m below = refl

  -- 5. In which order it is sent

  abbrev words : Step → List Said
  words s = said_in t w.config w.views w.sessions (config_after w.config s) (views_after w.views s) (ldp_counted t w.sessions s) s

  abbrev said_at : Step → ℕ → List Said
  said_at s m = said_any (wiring_of t) (node_at t w m) (happens s m)

  -- who keeps what it knows has no news
  quiet : (s : Step) → fits t s ≡ true → is_unchanged w.config s ≡ false → is_empty t w packets s ≡ false → (m : ℕ) → happens s m ≡ None → all_news s m ≡ []
  quiet s fit new full m e =
      news-is t w.config (config_after w.config s) w.views (views_after w.views s) w.sessions (ldp_counted t w.sessions s) m
      ∙ ap (λ n. news (wiring_of t) (knowledge_in (node_at t w m)) (knowledge_in n) m)
      (changes s fit new full m ∙ ap (changed_any (wiring_of t) (node_at t w m)) e)
      ∙ no_news (wiring_of t) (knowledge_in (node_at t w m)) m

  -- one node alone speaks
  one_speaks : (s : Step) → fits t s ≡ true → is_unchanged w.config s ≡ false → is_empty t w packets s ≡ false → (n : ℕ) → n < length t.loopbacks →
      (xs : List Said) → EachBy n xs
      → ((m : ℕ) → m ≢ n → happens s m ≡ None) → words s ≡ xs ++ flat_map (all_news s) (nodes_of (wiring_of t)) → words s ≡ said_at s n ++ []
  one_speaks s fit new full n below xs by others e =
      let own : words s ≡ xs ++ all_news s n =
      e ∙ ap (λ ys. xs ++ ys)
      (flat_map-one (all_news s) (length t.loopbacks) 0 n (omega arith) (omega (arith, below)) (λ m low high d. quiet s fit new full m (others m d))) in
      own ∙ sym (part_all n (xs ++ all_news s n) (by-append n xs (all_news s n) by (by_all s n))) ∙ sym (ap (part_of n) own) ∙ speaks s fit new full n below
      ∙ sym (append-nil (said_at s n))

  -- two nodes speak, one after the other
  two_speak : (s : Step) → fits t s ≡ true → is_unchanged w.config s ≡ false → is_empty t w packets s ≡ false →
      (a b : ℕ) → a < length t.loopbacks → b < length t.loopbacks → a ≢ b → (xs ys : List Said) → EachBy a xs → EachBy b ys
      → words s ≡ xs ++ ys → words s ≡ said_at s a ++ (said_at s b ++ [])
  two_speak s fit new full a b a_there b_there d xs ys by_a by_b e =
      let one : said_at s a ≡ xs =
      sym (speaks s fit new full a a_there) ∙ ap (part_of a) e ∙ filter-append (λ said. said.end == a) xs ys
      ∙ ap (λ zs. zs ++ part_of a ys) (part_all a xs by_a) ∙ ap (λ zs. xs ++ zs) (part_none b a ys (λ q. d (sym q)) by_b) ∙ append-nil xs in
      let two : said_at s b ≡ ys =
      sym (speaks s fit new full b b_there) ∙ ap (part_of b) e ∙ filter-append (λ said. said.end == b) xs ys
      ∙ ap (λ zs. zs ++ part_of b ys) (part_none a b xs d by_a) ∙ part_all b ys by_b in
      e ∙ ap (λ zs. zs ++ ys) (sym one) ∙ ap (λ zs. said_at s a ++ zs) (sym two ∙ sym (append-nil (said_at s b)))

  abbrev end_a : ℕ → ℕ
  end_a l = (link (wiring_of t) l).a.0

  abbrev end_b : ℕ → ℕ
  end_b l = (link (wiring_of t) l).b.0

  abbrev life_event : Step → ℕ → ℕ → Option Event
  life_event s l m = if is_end (wiring_of t) l m then turned l (lives w.config l) (lives (config_after w.config s) l) else None

  -- the end whose session opens has no news
  opens_quiet : (s : Step) → fits t s ≡ true → is_unchanged w.config s ≡ false → is_empty t w packets s ≡ false →
      (l m : ℕ) → l < length t.links → lives w.config l ≡ false → happens s m ≡ Some (Opens l) → all_news s m ≡ []
  opens_quiet s fit new full l m below dead e =
      news-is t w.config (config_after w.config s) w.views (views_after w.views s) w.sessions (ldp_counted t w.sessions s) m
      ∙ ap (λ n. news (wiring_of t) (knowledge_in (node_at t w m)) (knowledge_in n) m)
      (changes s fit new full m ∙ ap (changed_any (wiring_of t) (node_at t w m)) e)
      ∙ opening_is_no_news (wiring_of t) (node_at t w m) l (session_at-is t w.config w.views w.sessions m l below
      ∙ session-off-life t w.config w.sessions m l dead)

  ends_alone : (s : Step) → fits t s ≡ true → is_unchanged w.config s ≡ false → is_empty t w packets s ≡ false → (l : ℕ) →
      ((m : ℕ) → happens s m ≡ life_event s l m) → (xs : List Said)
      → words s ≡ xs ++ flat_map (all_news s) (ends_first (wiring_of t) l) → words s ≡ xs ++ (all_news s (end_a l) ++ (all_news s (end_b l) ++ []))
  ends_alone s fit new full l event xs whole =
      whole ∙ ap (λ ys. xs ++ (all_news s (end_a l) ++ (all_news s (end_b l) ++ ys)))
      (all_left_out (λ n. not (is_end (wiring_of t) l n)) (all_news s) (nodes_of (wiring_of t))
      (λ n off. quiet s fit new full n
      (event n ∙ ap (λ b. if b then turned l (lives w.config l) (lives (config_after w.config s) l) else None)
      (not_end (is_end (wiring_of t) l n) off))))
    where
      not_end : (b : Bool) → not b ≡ true → b ≡ false
      not_end true e = cc
      not_end false e = refl

  life_order : (s : Step) (fit : fits t s ≡ true) (new : is_unchanged w.config s ≡ false) (full : is_empty t w packets s ≡ false) (l : ℕ) → TurnsLife t w s l
      → ((m : ℕ) → happens s m ≡ life_event s l m) →
      (xs : List Said) → xs ≡ opening t (config_after w.config s) l → words s ≡ xs ++ flat_map (all_news s) (ends_first (wiring_of t) l)
      → (was is : Bool) → lives w.config l ≡ was → lives (config_after w.config s) l ≡ is
      → words s ≡ said_at s (end_a l) ++ (said_at s (end_b l) ++ [])
  life_order s fit new full l h event xs opens whole was false f g =
      two_speak s fit new full (end_a l) (end_b l) (lawful.joins_nodes l h.within).0 (lawful.joins_nodes l h.within).1 (lawful.ends_differ l h.within)
      (all_news s (end_a l)) (all_news s (end_b l)) (by_all s (end_a l)) (by_all s (end_b l))
      (ends_alone s fit new full l event xs whole
      ∙ ap (λ ys. ys ++ (all_news s (end_a l) ++ (all_news s (end_b l) ++ [])))
      (opens ∙ opening_if t l (loopbacks_apart t lawful) lawful.joins_nodes lawful.ends_differ h.within (config_after w.config s) false g)
      ∙ ap (λ ys. all_news s (end_a l) ++ ys) (append-nil (all_news s (end_b l))))
  life_order s fit new full l h event xs opens whole true true f g = absurd (clash (sym g ∙ h.once f))
  life_order s fit new full l h event xs opens whole false true f g =
      first_speaks (is_active t l (end_a l)) refl
    where
      begun : (m : ℕ) → is_end (wiring_of t) l m ≡ true → happens s m ≡ Some (Opens l)
      begun m e =
          event m ∙ ap (λ b. if b then turned l (lives w.config l) (lives (config_after w.config s) l) else None) e
          ∙ ap (λ b. turned l b (lives (config_after w.config s) l)) f ∙ ap (turned l false) g

      alone : words s ≡ first_word l (opener t l)
      alone =
          ends_alone s fit new full l event xs whole
          ∙ ap (λ ys. ys ++ (all_news s (end_a l) ++ (all_news s (end_b l) ++ [])))
          (opens ∙ opening_if t l (loopbacks_apart t lawful) lawful.joins_nodes lawful.ends_differ h.within (config_after w.config s) true g)
          ∙ ap (λ ys. first_word l (opener t l) ++ (ys ++ (all_news s (end_b l) ++ [])))
          (opens_quiet s fit new full l (end_a l) h.within f (begun (end_a l) (is_end-a (wiring_of t) l)))
          ∙ ap (λ ys. first_word l (opener t l) ++ (ys ++ [])) (opens_quiet s fit new full l (end_b l) h.within f (begun (end_b l) (is_end-b (wiring_of t) l)))
          ∙ append-nil (first_word l (opener t l))

      first_speaks : (first : Bool) → is_active t l (end_a l) ≡ first → words s ≡ said_at s (end_a l) ++ (said_at s (end_b l) ++ [])
      first_speaks true e =
          two_speak s fit new full (end_a l) (end_b l) (lawful.joins_nodes l h.within).0 (lawful.joins_nodes l h.within).1 (lawful.ends_differ l h.within)
          (first_word l (end_a l)) [] (by-said l (end_a l) (Initialization ∷ [])) tt
          (alone ∙ ap (λ b. first_word l (if b then end_a l else end_b l)) e ∙ sym (append-nil (first_word l (end_a l))))
      first_speaks false e =
          two_speak s fit new full (end_a l) (end_b l) (lawful.joins_nodes l h.within).0 (lawful.joins_nodes l h.within).1 (lawful.ends_differ l h.within)
          [] (first_word l (end_b l)) tt (by-said l (end_b l) (Initialization ∷ []))
          (alone ∙ ap (λ b. first_word l (if b then end_a l else end_b l)) e)

  -- all that is sent is what the acting nodes say, one after another
  pub order : (s : Step) → fits t s ≡ true → is_unchanged w.config s ≡ false → is_empty t w packets s ≡ false → is_transport s ≡ true →
      words s ≡ flat_map (said_at s) (acting t s)
  order (step.Learn n l) fit new full moves =
      one_speaks (step.Learn n l) fit new full n.0
      (less_tells n.0 (length t.loopbacks) (and_left (nat_lt n.0 (length t.loopbacks)) (nat_lt l.0 (length t.links)) fit)) [] tt
      (λ m d. ap (λ b. if b then Some (Learns l.0) else None) (other_test n.0 m (λ q. d (sym q)))) refl
  order (step.HearLdp l dir) fit new full moves =
      let r : ℕ = receiver (wiring_of t) l.0 dir in
      let h = heard-there l dir fit full in
      one_speaks (step.HearLdp l dir) fit new full r (end-there t lawful l.0 r h.within h.at_end) (answered t w.sessions l.0 r (sender (wiring_of t) l.0 dir))
      (by-said l.0 r
      (answer (ldp_state_of t w.sessions l.0 r) (slice_index_or (w.sessions.said l.0 (sender (wiring_of t) l.0 dir)) (w.sessions.heard l.0 r) Address)))
      (λ m d. ap (λ b. if b then hears l.0 m else None) (other_test r m (λ q. d (sym q)))) refl
  order (step.LinkUp l) fit new full moves =
      life_order (step.LinkUp l) fit new full l.0 (up-turns l fit new) (λ m. refl) (opening t (config_after w.config (step.LinkUp l)) l.0) refl refl
      (lives w.config l.0) (lives (config_after w.config (step.LinkUp l)) l.0) refl refl
  order (step.LinkDown l) fit new full moves =
      life_order (step.LinkDown l) fit new full l.0 (down-turns l fit) (λ m. refl) [] (no_opening l fit) refl (lives w.config l.0)
      (lives (config_after w.config (step.LinkDown l)) l.0) refl refl
  order (step.LdpAdmin l on) fit new full moves =
      life_order (step.LdpAdmin l on) fit new full l.0 (switch-turns l on fit new) (λ m. refl)
      (opening t (config_after w.config (step.LdpAdmin l on)) l.0) refl refl (lives w.config l.0)
      (lives (config_after w.config (step.LdpAdmin l on)) l.0) refl refl
  order _ fit new full moves = cc
