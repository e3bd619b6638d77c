-- The transport that has done a step stands for the world after it.
use Rattle.std.proofs.Common.{ℕ, zero, suc, ◌≡◌, ◌+◌, ◌*◌, ◌%◌, ◌<◌, inl, inr, Bool, true, false, not, List, length, map, refl, arith, sym, ◌∙◌, ap, subst}
use Rattle.std.proofs.Common.{None, Some}
use Rattle.std.specs.Prelude.{◌==◌, slice_index, slice_set}
use Rattle.std.proofs.lemmas.Bool.Decides.{eqb_tells}
use Rattle.std.proofs.lemmas.List.FromFn.{get_or-map-range_with_len, length-map-range_with_len}
use Rattle.mn_base.proofs.Bools.{less_tells}
use Rattle.mn_wiring.specs.Wiring.{link, links_of, nodes_of, is_end, sender, receiver}
use Rattle.mn_wiring.specs.declared.links.Dir.{Dir}
use Rattle.mn_base.specs.declared.numbers.LinkNo.{LinkNo}
use Rattle.mn_flight.specs.declared.Item.{Item}
use Rattle.mn_flight.specs.Flying.{on_channel}
use Rattle.mn_linkdb.specs.Changes.{is_odd, is_link_up}
use Rattle.mn_topo.specs.Network.{Network, wiring_of}
use Rattle.mn_topo.specs.Lawful.{IsLawful}
use Rattle.mn_topo.specs.declared.steps.Step.{Step}
use Rattle.mn_topo.specs.declared.steps.Step.TheVariants as step
use Rattle.mn_topo.specs.declared.steps.JournalEntry.{JournalEntry}
use Rattle.mn_node.specs.Machine.{Event, Opens, Closes}
use Rattle.mn_node.proofs.Lists.{map-put}
use Rattle.mn_ledger.specs.Tables.{put}
use Rattle.mn_ledger.specs.World.{World}
use Rattle.mn_ledger.specs.Ledger.{after, world_of}
use Rattle.mn_ledger.specs.Lawful.{IsLawfulJournal}
use Rattle.mn_ledger.specs.Transport.{is_transport}
use Rattle.mn_ledger.specs.Places.{home_of}
use Rattle.mn_reuse_laws.specs.Resting.{rested_of}
use Rattle.mn_reuse_laws.specs.Relabelled.{event_with, labels_at}
use Rattle.mn_timetable_laws.specs.Steps.{pushed}
use Rattle.mn_lsr.specs.Standing.{Standing}
use Rattle.mn_ledger.proofs.GoingBy.{put_here, put_off}
use Rattle.mn_slice_laws.specs.Slice.{node_at, event_of, turned}
use Rattle.mn_frame_laws.specs.Given.{given}
use Rattle.mn_transport_laws.specs.declared.notice.Notice.{Notice}
use Rattle.mn_transport_laws.specs.Carried.{Carried}
use Rattle.mn_transport_laws.specs.Sending.{notices_to}
use Rattle.mn_transport_laws.specs.Acting.{turned_by, Acts}
use Rattle.mn_transport_laws.specs.Doing.{TurnsEnds, TurnsIf, TurnsLink, Switches, told, switched}
use Rattle.mn_transport_laws.specs.Stands.{own_of, IsNode, StandsFor, IsTransport}
use Rattle.mn_transport_laws.specs.Steps.{IsTurn}
use Rattle.mn_transport_laws.proofs.Events.{not_off, no_end, an_end, no_event, switch_turns, happens-up, happens-down, happens-switch}
use Rattle.mn_transport_laws.proofs.Lists.{Each}
use Rattle.mn_transport_laws.proofs.Own.{IsHere}
use Rattle.mn_transport_laws.proofs.Nodes.{own-is, site-stays}
use Rattle.mn_transport_laws.proofs.Flown.{flies-before}
use Rattle.mn_transport_laws.proofs.Spelled.{FliesAs}
use Rattle.mn_transport_laws.proofs.Noticed.{count-append, told-here, told-off}
use Rattle.mn_transport_laws.proofs.Ends.{cut-anew, quiet-flies, quiet-nodes, turned-nodes, turned-each, turned-flies}
use Rattle.mn_transport_laws.proofs.Ready.{switch-at, up-at}

-- 1. What two ends leave as it is

pub record Rest (old new : Carried) : Type 0 where
  pub changes : new.changes ≡ old.changes
  pub switches : new.switches ≡ old.switches
  pub labels : new.labels ≡ old.labels
  pub notices : new.notices ≡ old.notices

pub act-rest : (t : Network) (tick number m : ℕ) (e : Event) (old new : Carried) (next : ℕ) → Acts t tick number m e old new next → Rest old new
act-rest t tick number m e old new next acts = record {
  changes = ap (λ (c : Carried). c.changes) acts.new_is;
  switches = ap (λ (c : Carried). c.switches) acts.new_is;
  labels = ap (λ (c : Carried). c.labels) acts.new_is;
  notices = ap (λ (c : Carried). c.notices) acts.new_is;
}

pub both-rest : (a b c : Carried) → Rest a b → Rest b c → Rest a c
both-rest a b c f g = record {
  changes = g.changes ∙ f.changes;
  switches = g.switches ∙ f.switches;
  labels = g.labels ∙ f.labels;
  notices = g.notices ∙ f.notices;
}

pub same-rest : (a b : Carried) → b ≡ a → Rest a b
same-rest a b e = record {
  changes = ap (λ (c : Carried). c.changes) e;
  switches = ap (λ (c : Carried). c.switches) e;
  labels = ap (λ (c : Carried). c.labels) e;
  notices = ap (λ (c : Carried). c.notices) e;
}

odd_turns : (count : ℕ) → is_odd (count + 1) ≡ not (is_odd count)
odd_turns zero = refl
odd_turns (suc zero) = refl
odd_turns (suc (suc count)) =
    ap (λ n. n == 1) (let e : (suc (suc count) + 1) % 2 ≡ (count + 1) % 2 = omega arith in e) ∙ odd_turns count
    ∙ ap (λ n. not (n == 1)) (let e : count % 2 ≡ suc (suc count) % 2 = omega arith in e)

module _ (t : Network) (lawful : IsLawful t) (es : List JournalEntry) (ps : List (List ℕ)) (journal : IsLawfulJournal t es ps) (tick : ℕ) (old : Carried)
    (stands : IsTransport t es old) where
  abbrev w : World
  w = world_of t es

  -- the step is done, and the transport stands for the journal with one entry more
  abbrev IsDone : Step → Carried → Type 0
  IsDone s new = StandsFor t (given t (pushed es tick s)) (rested_of t (pushed es tick s)) (after t (world_of t es) s) new

  abbrev NodesThen : Step → List Standing → Type 0
  NodesThen s nodes = Each (λ n x. IsNode t (given t (pushed es tick s)) (rested_of t (pushed es tick s)) (after t (world_of t es) s) n x) nodes

  -- all that flies then is spelled by the labels of after
  abbrev FliesThen : Step → Carried → ℕ → Dir → Type 0
  FliesThen s new k dir = FliesAs (wiring_of t) (labels_at t (pushed es tick s)) k dir
      ((after t (world_of t es) s).sessions.heard k (receiver (wiring_of t) k dir))
      ((after t (world_of t es) s).sessions.said k (sender (wiring_of t) k dir)) new.messages

  pub by-labels : (s : Step) (new : Carried) (k : ℕ) (dir : Dir) → FliesThen s new k dir →
      FliesAs (wiring_of t) (own_of (given t (pushed es tick s))) k dir ((after t (world_of t es) s).sessions.heard k (receiver (wiring_of t) k dir))
      ((after t (world_of t es) s).sessions.said k (sender (wiring_of t) k dir)) new.messages
  by-labels s new k dir =
      subst (λ g. FliesAs (wiring_of t) g k dir ((after t w s).sessions.heard k (receiver (wiring_of t) k dir))
      ((after t w s).sessions.said k (sender (wiring_of t) k dir)) new.messages)
      (sym (own-is t (pushed es tick s)))

  are : Each (λ n x. IsNode t (given t es) (rested_of t es) w n x) old.nodes
  are n x is = stands.nodes n x is

  -- 2. A link comes up or goes down

  module _ (s : Step) (moves : is_transport s ≡ true) (l : ℕ) (there : l < length t.links) (up : Bool)
      (changes : (after t w s).views.changes ≡ put w.views.changes l (w.views.changes l + 1)) (learned : (after t w s).views.learned ≡ w.views.learned)
      (ups : (after t w s).config.is_up ≡ put w.config.is_up l up) (was : w.config.is_up l ≡ not up) (ldp : (after t w s).config.ldp_on ≡ w.config.ldp_on)
      (attached : (site : ℕ) → (after t w s).config.attached site ≡ w.config.attached site)
      (number : ℕ) (new : Carried) (rest : Rest (told t tick number l old) new) where
    changed : new.changes ≡ map (after t w s).views.changes (links_of (wiring_of t))
    changed =
        rest.changes ∙ ap (λ xs. slice_set xs l (slice_index xs l + 1)) stands.changes
        ∙ ap (λ n. slice_set (map w.views.changes (links_of (wiring_of t))) l (n + 1))
        (get_or-map-range_with_len w.views.changes 0 (length t.links) l l 0 there (omega arith))
        ∙ map-put w.views.changes (put w.views.changes l (w.views.changes l + 1)) (length t.links) l (w.views.changes l + 1) 0
        (put_here w.views.changes l (w.views.changes l + 1)) (λ k below d. put_off w.views.changes l (w.views.changes l + 1) k d)
        ∙ ap (λ f. map f (links_of (wiring_of t))) (sym changes)

    not_not : (b : Bool) → not (not b) ≡ b
    not_not true = refl
    not_not false = refl

    is_up : (k : ℕ) → k < length t.links → is_odd ((after t w s).views.changes k) ≡ (after t w s).config.is_up k
    is_up k h = elim (eqb_tells k l) [
      | inl p ↦ ap (λ j. is_odd ((after t w s).views.changes j)) p.1 ∙ ap (λ f. is_odd (f l)) changes
          ∙ ap is_odd (put_here w.views.changes l (w.views.changes l + 1))
          ∙ odd_turns (w.views.changes l) ∙ ap not (stands.up l there ∙ was) ∙ not_not up
          ∙ sym (ap (λ j. (after t w s).config.is_up j) p.1 ∙ ap (λ f. f l) ups ∙ put_here w.config.is_up l up)
      | inr p ↦ ap (λ f. is_odd (f k)) changes ∙ ap is_odd (put_off w.views.changes l (w.views.changes l + 1) k p.1) ∙ stands.up k h
          ∙ sym (ap (λ f. f k) ups ∙ put_off w.config.is_up l up k p.1)
    ]

    notified : (k node : ℕ) → k < length t.links → node < length t.loopbacks →
        (after t w s).views.learned node k + length (on_channel (k * length t.loopbacks + node) new.notices) ≡ (after t w s).views.changes k
    notified k node h below =
        let made : List (Item Notice) = notices_to (l * length t.loopbacks) (tick + t.notice_delay) number (nodes_of (wiring_of t)) in
        let more : length (on_channel (k * length t.loopbacks + node) new.notices) ≡ length
        (on_channel (k * length t.loopbacks + node) old.notices) + length (on_channel (k * length t.loopbacks + node) made) =
        ap (λ xs. length (on_channel (k * length t.loopbacks + node) xs)) rest.notices ∙ count-append (k * length t.loopbacks + node) old.notices made in
        let before = stands.notices k node h below in
        let same : (after t w s).views.learned node k ≡ w.views.learned node k = ap (λ f. f node k) learned in
        elim (eqb_tells k l) [
          | inl p ↦ (let one : length (on_channel (k * length t.loopbacks + node) made) ≡ 1 =
              ap (λ j. length (on_channel (j * length t.loopbacks + node) made)) p.1
              ∙ told-here l (length t.loopbacks) (tick + t.notice_delay) number node below in
              let then_is : (after t w s).views.changes k ≡ w.views.changes k + 1 =
              ap (λ f. f k) changes ∙ ap (put w.views.changes l (w.views.changes l + 1)) p.1 ∙ put_here w.views.changes l (w.views.changes l + 1)
              ∙ ap (λ j. w.views.changes j + 1) (sym p.1) in
              omega (arith, more, before, same, one, then_is))
          | inr p ↦ (let none : length (on_channel (k * length t.loopbacks + node) made) ≡ 0 =
              told-off k l (length t.loopbacks) (tick + t.notice_delay) number node p.1 below in
              let then_is : (after t w s).views.changes k ≡ w.views.changes k =
              ap (λ f. f k) changes ∙ put_off w.views.changes l (w.views.changes l + 1) k p.1 in
              omega (arith, more, before, same, none, then_is))
        ]

    link-stands : length new.nodes ≡ length t.loopbacks → NodesThen s new.nodes → ((k : ℕ) (dir : Dir) → k < length t.links → FliesThen s new k dir) →
        IsDone s new
    link-stands each nodes flies = record {
      each = each;
      nodes = nodes;
      changes = changed;
      up = is_up;
      switches = rest.switches ∙ stands.switches ∙ ap (λ f. map f (links_of (wiring_of t))) (sym ldp);
      each_site = ap length rest.labels ∙ stands.each_site;
      sites = λ site attachment h at. ap (λ xs. slice_index xs site) rest.labels ∙ stands.sites site attachment h (sym (attached site) ∙ at)
          ∙ sym (site-stays t es tick s (home_of t site) site attachment moves);
      notices = notified;
      messages = λ k dir h. by-labels s new k dir (flies k dir h);
    }

  ends-rest : (number l : ℕ) (e : Event) (c new : Carried) (next : ℕ) → TurnsEnds t tick number l e c new next → Rest c new
  ends-rest number l e c new next did =
      both-rest c did.middle new (act-rest t tick number (link (wiring_of t) l).a.0 e c did.middle did.second_number did.first)
      (act-rest t tick did.second_number (link (wiring_of t) l).b.0 e did.middle new next did.second)

  length-sessions : (n : ℕ) → length (node_at t w n).sessions ≡ length t.links
  length-sessions n = length-map-range_with_len _ 0 (length t.links)

  pub goes-up : (l : LinkNo) (number : ℕ) (new : Carried) (next : ℕ) → IsTurn t w (step.LinkUp l) → TurnsLink t tick number l.0 true old new next →
      IsDone (step.LinkUp l) new
  goes-up l number new next turn did = by did.on (switch-at t lawful (given t es) (rested_of t es) w old stands l.0 did.on there did.switch) did.session
    where
      there : l.0 < length t.links
      there = less_tells l.0 (length t.links) turn.fitting

      by : (on : Bool) → on ≡ w.config.ldp_on l.0 → TurnsIf on t tick (number + length t.loopbacks) l.0 (Opens l.0) (told t tick number l.0 old) new next →
          IsDone (step.LinkUp l) new
      by true e ends =
          let on_end : (n : ℕ) → is_end (wiring_of t) l.0 n ≡ true → event_of t w (step.LinkUp l) n ≡ Some (Opens l.0) =
          λ n at. happens-up t w l turn.changes true e n ∙ an_end (is_end (wiring_of t) l.0 n) (Some (Opens l.0)) at in
          let off_end : (n : ℕ) → is_end (wiring_of t) l.0 n ≡ false → event_of t w (step.LinkUp l) n ≡ None =
          λ n at. happens-up t w l turn.changes true e n ∙ no_end (is_end (wiring_of t) l.0 n) (Some (Opens l.0)) at in
          let here : (n : ℕ) → is_end (wiring_of t) l.0 n ≡ true → IsHere (wiring_of t) (node_at t w n) (Opens l.0) =
          λ n at. (there, at, subst (λ k. l.0 < k) (sym (length-sessions n)) there) in
          link-stands (step.LinkUp l) refl l.0 there true refl refl refl turn.changes refl (λ site. refl) number new
          (ends-rest (number + length t.loopbacks) l.0 (Opens l.0) (told t tick number l.0 old) new next ends)
          (turned-each t lawful es ps journal tick (step.LinkUp l) turn refl l.0 there refl refl (λ site. refl) (Opens l.0) on_end off_end here (λ n. refl)
          (number + length t.loopbacks) next (told t tick number l.0 old) new ends stands.each are)
          (turned-nodes t lawful es ps journal tick (step.LinkUp l) turn refl l.0 there refl refl (λ site. refl) (Opens l.0) on_end off_end here (λ n. refl)
          (number + length t.loopbacks) next (told t tick number l.0 old) new ends stands.each are)
          (λ k dir h. turned-flies t lawful es ps journal tick (step.LinkUp l) turn refl l.0 there refl refl (λ site. refl) (Opens l.0) on_end off_end here
          (λ n. refl)
          (number + length t.loopbacks) next (told t tick number l.0 old) new ends stands.each are k dir h
          (cut-anew (wiring_of t) (labels_at t (pushed es tick (step.LinkUp l))) w.sessions l.0 k dir old.messages
          (flies-before t lawful es ps journal tick (step.LinkUp l) turn refl old stands k dir h)))
      by false e same =
          let none : (n : ℕ) → event_of t w (step.LinkUp l) n ≡ None = λ n. happens-up t w l turn.changes false e n ∙ no_event (is_end (wiring_of t) l.0 n) in
          link-stands (step.LinkUp l) refl l.0 there true refl refl refl turn.changes refl (λ site. refl) number new
          (same-rest (told t tick number l.0 old) new same.0)
          (ap (λ (c : Carried). length c.nodes) same.0 ∙ stands.each)
          (subst (NodesThen (step.LinkUp l)) (sym (ap (λ (c : Carried). c.nodes) same.0))
          (quiet-nodes t lawful es ps journal tick (step.LinkUp l) turn refl l.0 there refl refl (λ site. refl) none old.nodes stands.each are))
          (λ k dir h. subst (λ (c : Carried). FliesThen (step.LinkUp l) c k dir) (sym same.0)
          (quiet-flies t lawful es ps journal tick (step.LinkUp l) turn refl l.0 there refl refl (λ site. refl) none k dir old.messages
          (flies-before t lawful es ps journal tick (step.LinkUp l) turn refl old stands k dir h)))

  pub goes-down : (l : LinkNo) (number : ℕ) (new : Carried) (next : ℕ) → IsTurn t w (step.LinkDown l) →
      TurnsLink t tick number l.0 false old new next → IsDone (step.LinkDown l) new
  goes-down l number new next turn did = by did.on (switch-at t lawful (given t es) (rested_of t es) w old stands l.0 did.on there did.switch) did.session
    where
      there : l.0 < length t.links
      there = less_tells l.0 (length t.links) turn.fitting

      was : w.config.is_up l.0 ≡ true
      was = not_off (w.config.is_up l.0) turn.changes

      by : (on : Bool) → on ≡ w.config.ldp_on l.0 → TurnsIf on t tick (number + length t.loopbacks) l.0 (Closes l.0) (told t tick number l.0 old) new next →
          IsDone (step.LinkDown l) new
      by true e ends =
          let on_end : (n : ℕ) → is_end (wiring_of t) l.0 n ≡ true → event_of t w (step.LinkDown l) n ≡ Some (Closes l.0) =
          λ n at. happens-down t w l was true e n ∙ an_end (is_end (wiring_of t) l.0 n) (Some (Closes l.0)) at in
          let off_end : (n : ℕ) → is_end (wiring_of t) l.0 n ≡ false → event_of t w (step.LinkDown l) n ≡ None =
          λ n at. happens-down t w l was true e n ∙ no_end (is_end (wiring_of t) l.0 n) (Some (Closes l.0)) at in
          link-stands (step.LinkDown l) refl l.0 there false refl refl refl was refl (λ site. refl) number new
          (ends-rest (number + length t.loopbacks) l.0 (Closes l.0) (told t tick number l.0 old) new next ends)
          (turned-each t lawful es ps journal tick (step.LinkDown l) turn refl l.0 there refl refl (λ site. refl) (Closes l.0) on_end off_end (λ n at. tt)
          (λ n. refl)
          (number + length t.loopbacks) next (told t tick number l.0 old) new ends stands.each are)
          (turned-nodes t lawful es ps journal tick (step.LinkDown l) turn refl l.0 there refl refl (λ site. refl) (Closes l.0) on_end off_end (λ n at. tt)
          (λ n. refl)
          (number + length t.loopbacks) next (told t tick number l.0 old) new ends stands.each are)
          (λ k dir h. turned-flies t lawful es ps journal tick (step.LinkDown l) turn refl l.0 there refl refl (λ site. refl) (Closes l.0) on_end off_end
          (λ n at. tt)
          (λ n. refl) (number + length t.loopbacks) next (told t tick number l.0 old) new ends stands.each are k dir h
          (cut-anew (wiring_of t) (labels_at t (pushed es tick (step.LinkDown l))) w.sessions l.0 k dir old.messages
          (flies-before t lawful es ps journal tick (step.LinkDown l) turn refl old stands k dir h)))
      by false e same =
          let none : (n : ℕ) → event_of t w (step.LinkDown l) n ≡ None = λ n. happens-down t w l was false e n ∙ no_event (is_end (wiring_of t) l.0 n) in
          link-stands (step.LinkDown l) refl l.0 there false refl refl refl was refl (λ site. refl) number new
          (same-rest (told t tick number l.0 old) new same.0)
          (ap (λ (c : Carried). length c.nodes) same.0 ∙ stands.each)
          (subst (NodesThen (step.LinkDown l)) (sym (ap (λ (c : Carried). c.nodes) same.0))
          (quiet-nodes t lawful es ps journal tick (step.LinkDown l) turn refl l.0 there refl refl (λ site. refl) none old.nodes stands.each are))
          (λ k dir h. subst (λ (c : Carried). FliesThen (step.LinkDown l) c k dir) (sym same.0)
          (quiet-flies t lawful es ps journal tick (step.LinkDown l) turn refl l.0 there refl refl (λ site. refl) none k dir old.messages
          (flies-before t lawful es ps journal tick (step.LinkDown l) turn refl old stands k dir h)))

  -- 3. LDP is switched on or off for a link

  module _ (l : LinkNo) (there : l.0 < length t.links) (on : Bool) (new : Carried) (rest : Rest (switched l.0 on old) new) where
    switch-stands : length new.nodes ≡ length t.loopbacks → NodesThen (step.LdpAdmin l on) new.nodes →
        ((k : ℕ) (dir : Dir) → k < length t.links → FliesThen (step.LdpAdmin l on) new k dir) → IsDone (step.LdpAdmin l on) new
    switch-stands each nodes flies = record {
      each = each;
      nodes = nodes;
      changes = rest.changes ∙ stands.changes;
      up = stands.up;
      switches = rest.switches ∙ ap (λ xs. slice_set xs l.0 on) stands.switches
          ∙ map-put w.config.ldp_on (put w.config.ldp_on l.0 on) (length t.links) l.0 on false (put_here w.config.ldp_on l.0 on)
          (λ k below d. put_off w.config.ldp_on l.0 on k d);
      each_site = ap length rest.labels ∙ stands.each_site;
      sites = λ site attachment h at. ap (λ xs. slice_index xs site) rest.labels ∙ stands.sites site attachment h at
          ∙ sym (site-stays t es tick (step.LdpAdmin l on) (home_of t site) site attachment refl);
      notices =
          λ k node h below. ap (λ xs. w.views.learned node k + length (on_channel (k * length t.loopbacks + node) xs)) rest.notices
          ∙ stands.notices k node h below;
      messages = λ k dir h. by-labels (step.LdpAdmin l on) new k dir (flies k dir h);
    }

  pub goes-switch : (l : LinkNo) (on : Bool) (number : ℕ) (new : Carried) (next : ℕ) → IsTurn t w (step.LdpAdmin l on) →
      Switches t tick number l.0 on old new next → IsDone (step.LdpAdmin l on) new
  goes-switch l on number new next turn did = by (is_link_up old.changes l.0) (up-at t lawful (given t es) (rested_of t es) w old stands l.0 there) did
    where
      there : l.0 < length t.links
      there = less_tells l.0 (length t.links) turn.fitting

      here : (on : Bool) (n : ℕ) → is_end (wiring_of t) l.0 n ≡ true → IsHere (wiring_of t) (node_at t w n) (turned_by on l.0)
      here true n at = (there, at, subst (λ k. l.0 < k) (sym (length-sessions n)) there)
      here false n at = tt

      plain : (b : Bool) (n : ℕ) → event_with (wiring_of t) (labels_at t (pushed es tick (step.LdpAdmin l on))) n (turned_by b l.0) ≡ turned_by b l.0
      plain true n = refl
      plain false n = refl

      by : (up : Bool) → up ≡ w.config.is_up l.0 → TurnsIf up t tick number l.0 (turned_by on l.0) (switched l.0 on old) new next →
          IsDone (step.LdpAdmin l on) new
      by true e ends =
          let on_end : (n : ℕ) → is_end (wiring_of t) l.0 n ≡ true → event_of t w (step.LdpAdmin l on) n ≡ Some (turned_by on l.0) =
          λ n at. happens-switch t w l on true e n ∙ an_end (is_end (wiring_of t) l.0 n) (turned l.0 (w.config.ldp_on l.0) on) at
          ∙ switch_turns l.0 on (w.config.ldp_on l.0) turn.changes in
          let off_end : (n : ℕ) → is_end (wiring_of t) l.0 n ≡ false → event_of t w (step.LdpAdmin l on) n ≡ None =
          λ n at. happens-switch t w l on true e n ∙ no_end (is_end (wiring_of t) l.0 n) (turned l.0 (w.config.ldp_on l.0) on) at in
          switch-stands l there on new (ends-rest number l.0 (turned_by on l.0) (switched l.0 on old) new next ends)
          (turned-each t lawful es ps journal tick (step.LdpAdmin l on) turn refl l.0 there refl refl (λ site. refl) (turned_by on l.0) on_end off_end (here on)
          (plain on) number next (switched l.0 on old) new ends stands.each are)
          (turned-nodes t lawful es ps journal tick (step.LdpAdmin l on) turn refl l.0 there refl refl (λ site. refl) (turned_by on l.0) on_end off_end
          (here on)
          (plain on) number next (switched l.0 on old) new ends stands.each are)
          (λ k dir h. turned-flies t lawful es ps journal tick (step.LdpAdmin l on) turn refl l.0 there refl refl (λ site. refl)
          (turned_by on l.0) on_end off_end
          (here on) (plain on) number next (switched l.0 on old) new ends stands.each are k dir h
          (cut-anew (wiring_of t) (labels_at t (pushed es tick (step.LdpAdmin l on))) w.sessions l.0 k dir old.messages
          (flies-before t lawful es ps journal tick (step.LdpAdmin l on) turn refl old stands k dir h)))
      by false e same =
          let none : (n : ℕ) → event_of t w (step.LdpAdmin l on) n ≡ None = λ n. happens-switch t w l on false e n ∙ no_event (is_end (wiring_of t) l.0 n) in
          switch-stands l there on new (same-rest (switched l.0 on old) new same.0)
          (ap (λ (c : Carried). length c.nodes) same.0 ∙ stands.each)
          (subst (NodesThen (step.LdpAdmin l on)) (sym (ap (λ (c : Carried). c.nodes) same.0))
          (quiet-nodes t lawful es ps journal tick (step.LdpAdmin l on) turn refl l.0 there refl refl (λ site. refl) none old.nodes stands.each are))
          (λ k dir h. subst (λ (c : Carried). FliesThen (step.LdpAdmin l on) c k dir) (sym same.0)
          (quiet-flies t lawful es ps journal tick (step.LdpAdmin l on) turn refl l.0 there refl refl (λ site. refl) none k dir old.messages
          (flies-before t lawful es ps journal tick (step.LdpAdmin l on) turn refl old stands k dir h)))
