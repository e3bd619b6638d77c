-- Where the transport stands for a world in which a step has its turn, its nodes may act.
use Rattle.std.proofs.Common.{ℕ, zero, suc, ◌≡◌, ◌≢◌, ◌+◌, ◌<◌, ◌≤◌, ◌^◌, Bool, true, false, List, [], ◌∷◌, length, refl, arith, sym, ◌∙◌, ap, subst, Option}
use Rattle.std.proofs.Common.{None, Some}
use Rattle.std.proofs.Common.{get_or}
use Rattle.std.specs.Prelude.{◌&&◌, not, nat_lt, slice_get, slice_index, option_map, if◌then◌else◌}
use Rattle.std.proofs.lemmas.List.FromFn.{length-map-range_with_len, get_or-map-range_with_len}
use Rattle.std.proofs.lemmas.List.{get_or_past}
use Rattle.std.proofs.lemmas.Option.{get_or_from_slice_get}
use Rattle.mn_base.proofs.Bools.{and_left, and_right, and_false, less_tells, not_less_tells, not_at_most_tells, clash, no}
use Rattle.mn_wiring.specs.Wiring.{Wiring, link, is_end, across}
use Rattle.mn_linkdb.specs.Changes.{is_odd, is_link_up}
use Rattle.mn_topo.specs.Network.{Network, wiring_of}
use Rattle.mn_topo.specs.Lawful.{IsLawful}
use Rattle.mn_topo.specs.declared.steps.Step.TheVariants as step
use Rattle.mn_node.specs.Node.{Session, Node, session_at}
use Rattle.mn_node.specs.Machine.{Event, Learns, Opens, Closes, Hears}
use Rattle.mn_ledger.specs.World.{World}
use Rattle.mn_ledger.specs.Transport.{lives}
use Rattle.mn_ledger.specs.Refusal.{agree}
use Rattle.mn_ledger.proofs.Turning.{is_end-a, is_end-b}
use Rattle.mn_slice_laws.specs.Slice.{node_at, session_of}
use Rattle.mn_slice_laws.proofs.Changing.{session_at-is}
use Rattle.mn_frame_laws.specs.Given.{Labelling}
use Rattle.mn_ldp_session.specs.Spelling.{count_of}
use Rattle.mn_lsr.specs.Standing.{Standing, HasNumbers}
use Rattle.mn_transport_laws.specs.Carried.{Carried}
use Rattle.mn_transport_laws.specs.Acting.{turned_by, link_in, IsReady, IsAtEnd, MayAct}
use Rattle.mn_transport_laws.specs.Doing.{MayBoth, MayTurn, MaySwitch}
use Rattle.mn_reuse_laws.specs.Relabelled.{sessions_with, node_with}
use Rattle.mn_reuse_laws.specs.Relabelled.{session_with as session_with_labels}
use Rattle.mn_transport_laws.specs.Stands.{own_of, IsNode, StandsFor}
use Rattle.mn_transport_laws.specs.Steps.{IsTurn}
use Rattle.mn_transport_laws.proofs.Goings.{session-with}
use Rattle.mn_transport_laws.proofs.Flown.{count-with}

pub there : {A : Type 0} (xs : List A) (k : ℕ) → k < length xs → (x : A) × (slice_get xs k ≡ Some x)
there [] k h = absurd (let none : k < 0 → ⊥ = (λ p. omega (arith, p)) in none h)
there (x ∷ xs) zero h = (x, refl)
there (x ∷ xs) (suc k) h = there xs k (omega (arith, h))

none_if : (b c : Bool) (s : Session) → b ≡ false → (if b && c then Some s else None) ≡ None
none_if true c s e = cc
none_if false c s e = refl

some_if : (b c : Bool) (s : Session) → b ≡ true → c ≡ true → (if b && c then Some s else None) ≡ Some s
some_if true true s e f = refl
some_if true false s e f = cc
some_if false c s e f = cc

some_not_none : (s : Session) (o : Option Session) → o ≡ Some s → o ≢ None
some_not_none s o e none = cc

-- a node with other labels has the same sessions, and is as ready
length-with : (w : Wiring) (own : ℕ → ℕ → ℕ) (me l : ℕ) (ss : List (Option Session)) → length (sessions_with w own me l ss) ≡ length ss
length-with w own me l [] = refl
length-with w own me l (s ∷ ss) = ap suc (length-with w own me (l + 1) ss)

none-with : (w : Wiring) (own : ℕ → ℕ → ℕ) (n : Node) (l : ℕ) → session_at n l ≡ None → session_at (node_with w own n) l ≡ None
none-with w own n l e = session-with w own n l ∙ ap (option_map (session_with_labels (own (across w l n.me)))) e

some-with : (w : Wiring) (own : ℕ → ℕ → ℕ) (n : Node) (l : ℕ) → session_at n l ≢ None → session_at (node_with w own n) l ≢ None
some-with w own n l d e = alive (session_at n l) d (sym (session-with w own n l) ∙ e)
  where
    alive : (o : Option Session) → o ≢ None → option_map (session_with_labels (own (across w l n.me))) o ≡ None → ⊥
    alive None h f = h refl
    alive (Some session) h f = cc

ready-with : (w : Wiring) (own : ℕ → ℕ → ℕ) (changes : List ℕ) (n : Node) (e : Event) → IsReady changes n e → IsReady changes (node_with w own n) e
ready-with w own changes n (Learns l) h = h
ready-with w own changes n (Opens l) h = none-with w own n l h
ready-with w own changes n (Closes l) h = some-with w own n l h
ready-with w own changes n (Hears l message label) h = some-with w own n l h

numbers-with : (w : Wiring) (own : ℕ → ℕ → ℕ) (n : Node) → HasNumbers n → HasNumbers (node_with w own n)
numbers-with w own n h l =
    subst (λ k. k ≤ 2 ^ 62) (sym (ap count_of (session-with w own n l) ∙ count-with (own (across w l n.me)) (session_at n l))) (h l)

module _ (t : Network) (lawful : IsLawful t) (g : Labelling) (rested : ℕ → ℕ →
    ℕ) (w : World) (carried : Carried) (stands : StandsFor t g rested w carried) where
  -- no session lives on the link, or one does
  pub closed-at : (node l : ℕ) → l < length t.links → lives w.config l ≡ false → session_at (node_at t w node) l ≡ None
  closed-at node l h dead = session_at-is t w.config w.views w.sessions node l h ∙ none_if (lives w.config l) (is_end (wiring_of t) l node) _ dead

  pub open-at : (node l : ℕ) → l < length t.links → lives w.config l ≡ true → is_end (wiring_of t) l node ≡ true → session_at (node_at t w node) l ≢ None
  open-at node l h alive at_end =
      some_not_none _ (session_at (node_at t w node) l) (session_at-is t w.config w.views w.sessions node l h
      ∙ some_if (lives w.config l) (is_end (wiring_of t) l node) _ alive at_end)

  pub links-are : length carried.changes ≡ length t.links
  links-are = ap length stands.changes ∙ length-map-range_with_len w.views.changes 0 (length t.links)

  pub switches-are : length carried.switches ≡ length t.links
  switches-are = ap length stands.switches ∙ length-map-range_with_len w.config.ldp_on 0 (length t.links)

  pub changes-at : (l : ℕ) → l < length t.links → slice_index carried.changes l ≡ w.views.changes l
  changes-at l h = ap (λ xs. slice_index xs l) stands.changes ∙ get_or-map-range_with_len w.views.changes 0 (length t.links) l l 0 h (omega arith)

  pub up-at : (l : ℕ) → l < length t.links → is_link_up carried.changes l ≡ w.config.is_up l
  up-at l h = ap is_odd (changes-at l h) ∙ stands.up l h

  pub switch-at : (l : ℕ) (on : Bool) → l < length t.links → slice_get carried.switches l ≡ Some on → on ≡ w.config.ldp_on l
  switch-at l on h is =
      sym (get_or_from_slice_get carried.switches l on false is) ∙ ap (λ xs. get_or xs l false) stands.switches
      ∙ get_or-map-range_with_len w.config.ldp_on 0 (length t.links) l l false h (omega arith)

  pub learned-at : (node l : ℕ) → l < length t.links → slice_index (node_at t w node).learned l ≡ w.views.learned node l
  learned-at node l h = get_or-map-range_with_len (w.views.learned node) 0 (length t.links) l l 0 h (omega arith)

  few-at : ((l end : ℕ) → length (w.sessions.said l end) < 4000000000) → (node : ℕ) → HasNumbers (node_at t w node)
  few-at few node l = split (nat_lt l (length t.links)) refl
    where
      by : (b : Bool) (s : Session) → s.said < 4000000000 → count_of (if b then Some s else None) ≤ 2 ^ 62
      by true s h = omega (arith, h)
      by false s h = omega arith

      split : (b : Bool) → nat_lt l (length t.links) ≡ b → count_of (session_at (node_at t w node) l) ≤ 2 ^ 62
      split true e =
          subst (λ o. count_of o ≤ 2 ^ 62) (sym (session_at-is t w.config w.views w.sessions node l (less_tells l (length t.links) e)))
          (by (lives w.config l && is_end (wiring_of t) l node) _ (few l node))
      split false e =
          subst (λ o. count_of o ≤ 2 ^ 62) (sym (get_or_past (node_at t w node).sessions l None
          (omega (arith, not_less_tells l (length t.links) e, length-map-range_with_len (session_of t w.config w.sessions node) 0 (length t.links)))))
          (omega arith)

  pub may-act : ((l end : ℕ) → length (w.sessions.said l end) < 4000000000) → (node : ℕ) (event : Event) → node < length t.loopbacks →
      link_in event < length t.links → IsAtEnd t node event →
      IsReady carried.changes (node_at t w node) event
      → MayAct t carried node event
  may-act few node event below link_there at_end ready =
      let found : (s : Standing) × (slice_get carried.nodes node ≡ Some s) = there carried.nodes node (subst (λ k. node < k) (sym stands.each) below) in
      let is : IsNode t g rested w node found.0 = stands.nodes node found.0 found.1 in
      record {
        was = found.0;
        there = found.1;
        wiring = is.wiring;
        me = ap (λ n. n.me) is.node_is;
        links = links-are;
        sessions = ap (λ n. length n.sessions) is.node_is ∙ length-with (wiring_of t) (own_of g) node 0 (node_at t w node).sessions
            ∙ length-map-range_with_len _ 0 (length t.links);
        link = link_there;
        at_end = at_end;
        ready = subst (λ n. IsReady carried.changes n event) (sym is.node_is)
            (ready-with (wiring_of t) (own_of g) carried.changes (node_at t w node) event ready);
        numbers = subst HasNumbers (sym is.node_is) (numbers-with (wiring_of t) (own_of g) (node_at t w node) (few-at few node));
      }

  -- both ends of a link whose session doesn't live may open it, and of one whose session lives may close it
  pub may-open : ((l end : ℕ) → length (w.sessions.said l end) < 4000000000) → (l : ℕ) → l < length t.links → lives w.config l ≡ false →
      MayBoth t carried l (Opens l)
  may-open few l h dead = record {
    a = may-act few (link (wiring_of t) l).a.0 (Opens l) (lawful.joins_nodes l h).0 h (is_end-a (wiring_of t) l)
        (closed-at (link (wiring_of t) l).a.0 l h dead);
    b = may-act few (link (wiring_of t) l).b.0 (Opens l) (lawful.joins_nodes l h).1 h (is_end-b (wiring_of t) l)
        (closed-at (link (wiring_of t) l).b.0 l h dead);
  }

  pub may-close : ((l end : ℕ) → length (w.sessions.said l end) < 4000000000) → (l : ℕ) → l < length t.links → lives w.config l ≡ true →
      MayBoth t carried l (Closes l)
  may-close few l h alive = record {
    a = may-act few (link (wiring_of t) l).a.0 (Closes l) (lawful.joins_nodes l h).0 h (is_end-a (wiring_of t) l)
        (open-at (link (wiring_of t) l).a.0 l h alive (is_end-a (wiring_of t) l));
    b = may-act few (link (wiring_of t) l).b.0 (Closes l) (lawful.joins_nodes l h).1 h (is_end-b (wiring_of t) l)
        (open-at (link (wiring_of t) l).b.0 l h alive (is_end-b (wiring_of t) l));
  }

  both_on : (up on : Bool) → up ≡ true → on ≡ true → (up && on) ≡ true
  both_on true true e f = refl
  both_on true false e f = cc
  both_on false on e f = cc

  pub may-up : (l : _) → IsTurn t w (step.LinkUp l) → MayTurn t carried l.0 true
  may-up l turn =
      let h : l.0 < length t.links = less_tells l.0 (length t.links) turn.fitting in
      record {
        link = h;
        links = links-are;
        each = stands.each;
        switched = switches-are;
        turns = λ e. no (sym turn.changes ∙ sym (up-at l.0 h) ∙ e);
        both = λ on. may-open turn.few l.0 h (ap (λ b. b && w.config.ldp_on l.0) turn.changes);
      }

  pub may-down : (l : _) → IsTurn t w (step.LinkDown l) → MayTurn t carried l.0 false
  may-down l turn =
      let h : l.0 < length t.links = less_tells l.0 (length t.links) turn.fitting in
      let up : w.config.is_up l.0 ≡ true = not_off (w.config.is_up l.0) turn.changes in
      record {
        link = h;
        links = links-are;
        each = stands.each;
        switched = switches-are;
        turns = λ e. clash (sym up ∙ sym (up-at l.0 h) ∙ e);
        both = λ on. may-close turn.few l.0 h (both_on (w.config.is_up l.0) (w.config.ldp_on l.0) up (sym (switch-at l.0 true h on)));
      }
    where
      not_off : (b : Bool) → not b ≡ false → b ≡ true
      not_off true e = refl
      not_off false e = cc

  pub may-switch : (l : _) (on : Bool) → IsTurn t w (step.LdpAdmin l on) → MaySwitch t carried l.0 on
  may-switch l on turn =
      let h : l.0 < length t.links = less_tells l.0 (length t.links) turn.fitting in
      record {
        link = h;
        links = links-are;
        switched = switches-are;
        both = λ up. by on h (sym (up-at l.0 h) ∙ up) turn.changes;
      }
    where
      by : (on : Bool) → l.0 < length t.links → w.config.is_up l.0 ≡ true → agree on (w.config.ldp_on l.0) ≡ false → MayBoth t carried l.0 (turned_by on l.0)
      by true h up off = may-open turn.few l.0 h (ap (λ b. w.config.is_up l.0 && b) off ∙ and_false (w.config.is_up l.0))
      by false h up off = may-close turn.few l.0 h (both_on (w.config.is_up l.0) (w.config.ldp_on l.0) up (was_on (w.config.ldp_on l.0) off))
        where
          was_on : (b : Bool) → not b ≡ false → b ≡ true
          was_on true e = refl
          was_on false e = cc

  pub may-learn : (node l : _) → IsTurn t w (step.Learn node l) → MayAct t carried node.0 (Learns l.0)
  may-learn node l turn =
      let below : node.0 < length t.loopbacks =
      less_tells node.0 (length t.loopbacks) (and_left (nat_lt node.0 (length t.loopbacks)) (nat_lt l.0 (length t.links)) turn.fitting) in
      let h : l.0 < length t.links =
      less_tells l.0 (length t.links) (and_right (nat_lt node.0 (length t.loopbacks)) (nat_lt l.0 (length t.links)) turn.fitting) in
      let more : w.views.learned node.0 l.0 < w.views.changes l.0 = not_at_most_tells (w.views.changes l.0) (w.views.learned node.0 l.0) turn.there in
      let learned = learned-at node.0 l.0 h in
      let changed = changes-at l.0 h in
      may-act turn.few node.0 (Learns l.0) below h tt (omega (arith, more, learned, changed))
