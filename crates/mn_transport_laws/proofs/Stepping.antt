-- Each node as a step of a lawful journal is done, with the labels that FECs have after it.
use Rattle.std.proofs.Common.{ℕ, ◌≡◌, ◌+◌, ◌<◌, inl, inr, Bool, true, false, cond, List, [], ◌∷◌, ◌++◌, length, refl, arith, sym, ◌∙◌, ap, subst}
use Rattle.std.proofs.Common.{Option, Some, None}
use Rattle.std.specs.Prelude.{◌==◌, ◌&&◌, ◌||◌, not, is_some, option_map, map, filter}
use Rattle.std.specs.List.{flat_map}
use Rattle.mn_base.proofs.Bools.{and_false, or_off, not_at_most_tells, less_tells}
use Rattle.mn_base.proofs.Members.{In, in_range}
use Rattle.mn_wiring.specs.Wiring.{Wiring, nodes_of, receiver}
use Rattle.mn_topo.specs.Network.{Network, wiring_of}
use Rattle.mn_topo.specs.Lawful.{IsLawful}
use Rattle.mn_topo.specs.declared.steps.Step.{Step}
use Rattle.mn_topo.specs.declared.steps.Step.TheVariants as step
use Rattle.mn_topo.specs.declared.steps.JournalEntry.{JournalEntry}
use Rattle.mn_labels.specs.Labels.{Labels, offered}
use Rattle.mn_labels.proofs.Offering.{offered_alike}
use Rattle.mn_releases.specs.Rests.{Resting, is_over}
use Rattle.mn_bindings.specs.Known.{all_stopped}
use Rattle.mn_node.specs.Ldp.{Said, is_by, messages_of, offers}
use Rattle.mn_node.specs.Node.{Session, Node, hearing_in, knowledge_in}
use Rattle.mn_node.specs.Machine.{Event, with_count, counted_from, having_said, changed, said, said_any, after_event, after_any}
use Rattle.mn_node.proofs.Told.{usable_by-alike}
use Rattle.mn_ledger.specs.World.{World}
use Rattle.mn_ledger.specs.Transport.{is_transport, knowledge_of, views_after, ldp_counted, with_said, said_in, sessions_after}
use Rattle.mn_ledger.specs.Ledger.{config_after, after, world_of, world_from, start, no_packets}
use Rattle.mn_ledger.specs.Lawful.{IsLawfulJournal}
use Rattle.mn_ledger.proofs.Turning.{dir_ends}
use Rattle.mn_settled_laws.specs.Offers.{offers_in}
use Rattle.mn_slice_laws.specs.Slice.{node_at, event_of, acting}
use Rattle.mn_slice_laws.specs.Steps.{node_says, IsByNodes}
use Rattle.mn_slice_laws.proofs.Known.{knows_as_much}
use Rattle.mn_slice_laws.proofs.Nodes.{by_nodes}
use Rattle.mn_reuse_laws.specs.Resting as reuse
use Rattle.mn_reuse_laws.specs.Resting.{rested_of, rested_from, rested_after}
use Rattle.mn_reuse_laws.specs.Labels as ledger
use Rattle.mn_reuse_laws.specs.Labels.{labels_of, labels_after, attached_in, first_labels}
use Rattle.mn_reuse_laws.specs.Relabelled.{Labelling, node_with, event_with, labels_at}
use Rattle.mn_reuse_laws.proofs.Answering.{Released, AreFar, released, anew_far, more_far, ends_far}
use Rattle.mn_reuse_laws.proofs.Relabelling.{same_knowledge, changed_with, goes_alike}
use Rattle.mn_reuse_laws.proofs.Alike.{relabelled_alike}
use Rattle.mn_reuse_laws.proofs.Over.{labels_from_push, has_labels}
use Rattle.mn_timetable_laws.specs.Steps.{pushed}
use Rattle.mn_lsr.specs.Turns.{Kept, new_offers, is_free_at, labels_then, rested_by_event, owed_for_said, ended_offers, resting_then}
use Rattle.mn_transport_laws.specs.Resting.{IsResting}
use Rattle.mn_transport_laws.specs.Steps.{IsTurn}
use Rattle.mn_transport_laws.proofs.Rows.{AllSaidBy}
use Rattle.mn_transport_laws.proofs.Then.{rests-then, free-is}
use Rattle.mn_transport_laws.proofs.Own.{AllOwn, IsHere, own-event}
use Rattle.mn_transport_laws.proofs.Goings.{rested_any, leads, goes-any}

-- 1. Lists

filter-same : (p q : ℕ → Bool) (xs : List ℕ) → ((x : ℕ) → In xs x → p x ≡ q x) → filter p xs ≡ filter q xs
filter-same p q [] h = refl
filter-same p q (x ∷ xs) h =
    ap (λ b. cond b (x ∷ filter p xs) (filter p xs)) (h x (inl refl)) ∙ ap (λ ys. cond (q x) (x ∷ ys) ys) (filter-same p q xs (λ y i. h y (inr i)))

pub filter-none : (p : ℕ → Bool) (xs : List ℕ) → ((x : ℕ) → In xs x → p x ≡ false) → filter p xs ≡ []
filter-none p [] h = refl
filter-none p (x ∷ xs) h = ap (λ b. cond b (x ∷ filter p xs) (filter p xs)) (h x (inl refl)) ∙ filter-none p xs (λ y i. h y (inr i))

-- what a node says on a link is among what it says
messages-own : (l m : ℕ) (xs : List Said) → messages_of l m xs ≡ messages_of l m (filter (λ said. said.end == m) xs)
messages-own l m xs = ap (map (λ (said : Said). said.message)) (by xs)
  where
    by : (xs : List Said) → filter (is_by l m) xs ≡ filter (is_by l m) (filter (λ said. said.end == m) xs)
    by [] = refl
    by (x ∷ xs) = either (x.end == m) refl (by xs)
      where
        either : (b : Bool) → (x.end == m) ≡ b → filter (is_by l m) xs ≡ filter (is_by l m) (filter (λ said. said.end == m) xs) →
            filter (is_by l m) (x ∷ xs) ≡ filter (is_by l m) (cond b (x ∷ filter (λ said. said.end == m) xs) (filter (λ said. said.end == m) xs))
        either true e rest = ap (λ ys. cond (is_by l m x) (x ∷ ys) ys) rest
        either false e rest = ap (λ b. cond ((x.link == l) && b) (x ∷ filter (is_by l m) xs) (filter (is_by l m) xs)) e
            ∙ ap (λ b. cond b (x ∷ filter (is_by l m) xs) (filter (is_by l m) xs)) (and_false (x.link == l)) ∙ rest

-- 2. What a node knows isn't told by what it sent

said-hearing : (k : ℕ) (o : Option Session) → hearing_in (option_map (with_count k) o) ≡ hearing_in o
said-hearing k None = refl
said-hearing k (Some s) = refl

said-hearings : (l me : ℕ) (xs : List Said) (ss : List (Option Session)) → map hearing_in (counted_from l me xs ss) ≡ map hearing_in ss
said-hearings l me xs [] = refl
said-hearings l me xs (s ∷ ss) =
    ap (λ h. h ∷ map hearing_in (counted_from (l + 1) me xs ss)) (said-hearing (length (messages_of l me xs)) s)
    ∙ ap (λ hs. hearing_in s ∷ hs) (said-hearings (l + 1) me xs ss)

said-knows : (n : Node) (xs : List Said) → knowledge_in (having_said n xs) ≡ knowledge_in n
said-knows n xs = ap (λ hs. record (knowledge_in n) { hearings = hs }) (said-hearings 0 n.me xs n.sessions)

pub offers-alike : (t : Network) (w : World) (m p : ℕ) → p < length t.loopbacks → offers (wiring_of t) (knowledge_in (node_at t w m)) m p ≡ offers_in t w m p
offers-alike t w m p below =
    ap (λ o. (m == p) || is_some o)
    (sym (usable_by-alike (wiring_of t) (knowledge_of (wiring_of t) w.config w.views w.sessions m) (knowledge_in (node_at t w m)) m p below
    (knows_as_much t w.config w.views w.sessions m)))

-- 3. One entry more

rested_from_push : (t : Network) (n : ℕ) (es : List JournalEntry) (w : World) (rested : ℕ → ℕ) (e : JournalEntry) →
    rested_from t n w rested (es ++ e ∷ []) ≡ rested_after t (world_from t w es) e.tick e.step n (rested_from t n w rested es)
rested_from_push t n [] w rested e = refl
rested_from_push t n (x ∷ es) w rested e = rested_from_push t n es (after t w x.step) (rested_after t w x.tick x.step n rested) e

pub rested-more : (t : Network) (es : List JournalEntry) (tick : ℕ) (s : Step) (m : ℕ) →
    rested_of t (pushed es tick s) m ≡ rested_after t (world_of t es) tick s m (rested_of t es m)
rested-more t es tick s m = rested_from_push t m es (start t) (λ fec. 0) _

pub labels-more : (t : Network) (es : List JournalEntry) (tick : ℕ) (s : Step) (m : ℕ) →
    labels_of t (pushed es tick s) m ≡ labels_after t (world_of t es) tick s m (rested_of t es m) (labels_of t es m)
unfolding labels_of
labels-more t es tick s m = labels_from_push t m es (start t) (λ fec. 0) (first_labels t m) _

pub none_attached : (t : Network) (w : World) (s : Step) (m : ℕ) (labels : Labels) → is_transport s ≡ true → attached_in t w s m labels ≡ labels
none_attached t w (step.Attach site) m labels moves = cc
none_attached t w _ m labels moves = refl

counted-far : (t : Network) (lawful : IsLawful t) (w : World) (s : Step) → IsTurn t w s → is_transport s ≡ true → AreFar t (ldp_counted t w.sessions s)
counted-far t lawful w (step.LinkUp l) turn moves = anew_far t w.sessions l.0 (ends_far t w.config w.sessions turn.turn.ldp)
counted-far t lawful w (step.LinkDown l) turn moves = anew_far t w.sessions l.0 (ends_far t w.config w.sessions turn.turn.ldp)
counted-far t lawful w (step.LdpAdmin l on) turn moves = anew_far t w.sessions l.0 (ends_far t w.config w.sessions turn.turn.ldp)
counted-far t lawful w (step.Learn n l) turn moves = ends_far t w.config w.sessions turn.turn.ldp
counted-far t lawful w (step.HearLdp l dir) turn moves =
    more_far t w.sessions l.0 (receiver (wiring_of t) l.0 dir)
    (subst (λ n. w.sessions.heard l.0 (receiver (wiring_of t) l.0 dir) < length (w.sessions.said l.0 n))
    (sym (dir_ends (wiring_of t) l.0 dir (lawful.ends_differ l.0 (less_tells l.0 (length t.links) turn.fitting))).1)
    (not_at_most_tells _ _ (or_off _ _ turn.there).1)) (ends_far t w.config w.sessions turn.turn.ldp)
counted-far t lawful w _ turn moves = cc

-- what is sent is sent in the sessions of the step
pub spoken-is : (t : Network) (w : World) (s : Step) → is_transport s ≡ true
    → (after t w s).sessions ≡ with_said (ldp_counted t w.sessions s)
    (said_in t w.config w.views w.sessions (config_after w.config s) (views_after w.views s) (ldp_counted t w.sessions s) s)
unfolding sessions_after
spoken-is t w (step.LinkUp l) e = refl
spoken-is t w _ e = cc

all-by : (w : Wiring) (n : Node) (me : ℕ) (xs : List Said) → AllOwn w n me xs → AllSaidBy w me xs
all-by w n me [] h = tt
all-by w n me (x ∷ xs) h = ((h.0.by, h.0.there, h.0.at_end), all-by w n me xs h.1)

-- 4. A step

module _ (t : Network) (lawful : IsLawful t) (es : List JournalEntry) (ps : List (List ℕ)) (journal : IsLawfulJournal t es ps) (tick : ℕ) (s : Step)
    (turn : IsTurn t (world_of t es) s) (moves : is_transport s ≡ true) where
  abbrev w : World
  w = world_of t es

  abbrev own : Labelling
  own = labels_at t (pushed es tick s)

  -- the node of before, with the labels of after
  abbrev pub node_before : ℕ → Node
  node_before m = node_with (wiring_of t) (labels_at t (pushed es tick s)) (node_at t (world_of t es) m)

  pub nodes-by : IsByNodes t (world_of t es) s
  nodes-by = by_nodes t (world_of t es) no_packets s lawful turn.turn turn.fitting turn.changes turn.there

  pub sessions-then : (after t (world_of t es) s).sessions
      ≡ with_said (ldp_counted t (world_of t es).sessions s) (flat_map (node_says t (world_of t es) s) (acting t s))
  sessions-then = spoken-is t w s moves ∙ ap (with_said (ldp_counted t w.sessions s)) (nodes-by.order moves)

  pub same-node : (m : ℕ) → node_with (wiring_of t) (labels_at t es) (node_at t (world_of t es) m) ≡ node_before m
  same-node m = relabelled_alike t es ps _ m lawful journal

  free : Released t (world_of t es).sessions
  free = released t es ps lawful journal

  module _ (m : ℕ) (below : m < length t.loopbacks) where
    before-offers : (p : ℕ) → p < length t.loopbacks → offers (wiring_of t) (knowledge_in (node_before m)) m p ≡ offers_in t w m p
    before-offers p under = ap (λ k. offers (wiring_of t) k m p) (same_knowledge (wiring_of t) own (node_at t w m)) ∙ offers-alike t w m p under

    mine : (l : ℕ) → messages_of l m (flat_map (node_says t w s) (acting t s)) ≡ messages_of l m (node_says t w s m)
    mine l = messages-own l m (flat_map (node_says t w s) (acting t s))
        ∙ ap (λ xs. messages_of l m (filter (λ said. said.end == m) xs)) (sym (nodes-by.order moves))
        ∙ ap (messages_of l m) (nodes-by.part m below)

    -- what it counts, by what it says in the step
    counts : (xs : List Said) → node_says t w s m ≡ xs → AllSaidBy (wiring_of t) m xs → (r : Resting) → IsResting t w (rested_of t es m) m r →
        (o : Option Event) → event_of t w s m ≡ o →
        IsResting t (after t w s) (rested_of t (pushed es tick s) m) m
        (all_stopped tick (owed_for_said (wiring_of t) m (rested_any (wiring_of t) tick (node_before m) (option_map (event_with (wiring_of t) own m) o) r) xs)
        (filter (reuse.ends_offer t w s m) (nodes_of (wiring_of t))))
    counts xs says all r is o e =
        subst (λ f. IsResting t (after t w s) f m (all_stopped tick (owed_for_said (wiring_of t) m
        (rested_any (wiring_of t) tick (node_before m) (option_map (event_with (wiring_of t) own m) o) r) xs)
        (filter (reuse.ends_offer t w s m) (nodes_of (wiring_of t))))) (sym (rested-more t es tick s m))
        (rests-then t w s (ldp_counted t w.sessions s) m tick xs (flat_map (node_says t w s) (acting t s)) below sessions-then
        (λ l. mine l ∙ ap (messages_of l m) says) all
        (λ l inside at. leads t lawful w s own m tick below turn (rested_of t es m) r is l inside at)
        (λ l inside at. counted-far t lawful w s turn moves l m inside at) (rested_of t es m) r _
        (goes-any t lawful w s own m tick below turn moves free (rested_of t es m) r is o e) is)

    -- 5. Something happens to it

    module _ (e : Event) (happens : event_of t (world_of t es) s m ≡ Some e) where
      abbrev pub event_then : Event
      event_then = event_with (wiring_of t) (labels_at t (pushed es tick s)) m e

      pub becomes : after_event (wiring_of t) (node_before m) event_then ≡ node_with (wiring_of t) (labels_at t (pushed es tick s))
          (node_at t (after t (world_of t es) s) m)
      becomes = (goes_alike (wiring_of t) own (node_at t w m) e).then_is
          ∙ ap (node_with (wiring_of t) own) (sym (nodes-by.each m below ∙ ap (after_any (wiring_of t) (node_at t w m)) happens))

      pub says : said (wiring_of t) (node_before m) event_then ≡ said (wiring_of t) (node_at t (world_of t es) m) e
      says = (goes_alike (wiring_of t) own (node_at t w m) e).says

      pub node-says : node_says t (world_of t es) s m ≡ said (wiring_of t) (node_at t (world_of t es) m) e
      node-says = ap (said_any (wiring_of t) (node_at t w m)) happens

      after-offers : (p : ℕ) → p < length t.loopbacks →
          offers (wiring_of t) (knowledge_in (changed (wiring_of t) (node_before m) event_then)) m p ≡ offers_in t (after t w s) m p
      after-offers p under =
          ap (λ n. offers (wiring_of t) (knowledge_in n) m p) (changed_with (wiring_of t) own (node_at t w m) e)
          ∙ ap (λ k. offers (wiring_of t) k m p) (same_knowledge (wiring_of t) own (changed (wiring_of t) (node_at t w m) e)
          ∙ sym (said-knows (changed (wiring_of t) (node_at t w m) e) (said (wiring_of t) (node_at t w m) e))
          ∙ ap knowledge_in (sym (nodes-by.each m below ∙ ap (after_any (wiring_of t) (node_at t w m)) happens)))
          ∙ offers-alike t (after t w s) m p under

      begun-same : new_offers (wiring_of t) (knowledge_in (node_before m)) (knowledge_in (changed (wiring_of t) (node_before m) event_then)) m
          ≡ ledger.new_offers t w s m
      begun-same = filter-same _ _ (nodes_of (wiring_of t)) (λ p i.
          let under : p < length t.loopbacks = omega (arith, (in_range 0 (length t.loopbacks) p i).1) in
          ap (λ b. not (p == m) && (not b && offers (wiring_of t) (knowledge_in (changed (wiring_of t) (node_before m) event_then)) m p))
          (before-offers p under)
          ∙ ap (λ b. not (p == m) && (not (offers_in t w m p) && b)) (after-offers p under))

      ended-same : ended_offers (wiring_of t) (knowledge_in (node_before m)) (knowledge_in (changed (wiring_of t) (node_before m) event_then)) m
          ≡ filter (reuse.ends_offer t w s m) (nodes_of (wiring_of t))
      ended-same = filter-same _ _ (nodes_of (wiring_of t)) (λ p i.
          let under : p < length t.loopbacks = omega (arith, (in_range 0 (length t.loopbacks) p i).1) in
          ap (λ b. b && not (offers (wiring_of t) (knowledge_in (changed (wiring_of t) (node_before m) event_then)) m p)) (before-offers p under)
          ∙ ap (λ b. offers_in t w m p && not b) (after-offers p under))

      -- its labels then are the ledger's
      pub labels-go : (r : Resting) → IsResting t (world_of t es) (rested_of t es m) m r →
          labels_then (wiring_of t) tick (record { node = node_before m; labels = labels_of t es m; resting = r }) event_then ≡ labels_of t (pushed es tick s) m
      labels-go r is =
          ap (offered (is_free_at (wiring_of t) tick kept) (labels_of t es m)) begun-same
          ∙ offered_alike (is_free_at (wiring_of t) tick kept) (ledger.is_free t w m (rested_of t es m) tick) (labels_of t es m) (ledger.new_offers t w s m)
          (λ p h. inl (let under : p < length t.loopbacks = subst (λ n. p < n) (has_labels t es ps m below lawful journal).long h in
          ap (λ b. not b && is_over r tick p) (before-offers p under) ∙ free-is t lawful w m free turn.turn.ldp (rested_of t es m) r is tick p under))
          ∙ ap (λ labels. offered (ledger.is_free t w m (rested_of t es m) tick) labels (ledger.new_offers t w s m))
          (sym (none_attached t w s m (labels_of t es m) moves))
          ∙ sym (labels-more t es tick s m)
        where
          kept : Kept
          kept = record { node = node_before m; labels = labels_of t es m; resting = r }

      -- and what it counts
      pub rests-go : IsHere (wiring_of t) (node_at t (world_of t es) m) e → (labels : Labels) (r : Resting) →
          IsResting t (world_of t es) (rested_of t es m) m r →
          IsResting t (after t (world_of t es) s) (rested_of t (pushed es tick s) m) m
          (resting_then (wiring_of t) tick (record { node = node_before m; labels = labels; resting = r }) event_then)
      rests-go here labels r is =
          subst (λ fecs. IsResting t (after t w s) (rested_of t (pushed es tick s) m) m (all_stopped tick (owed_for_said (wiring_of t) m
          (rested_by_event (wiring_of t) tick (node_before m) event_then r) (said (wiring_of t) (node_before m) event_then)) fecs)) (sym ended-same)
          (counts (said (wiring_of t) (node_before m) event_then) (node-says ∙ sym says)
          (subst (AllSaidBy (wiring_of t) m) (sym says)
          (all-by (wiring_of t) (changed (wiring_of t) (node_at t w m) e) m (said (wiring_of t) (node_at t w m) e)
          (own-event (wiring_of t) (node_at t w m) e here)))
          r is (Some e) happens)

    -- 6. Nothing happens to it

    module _ (none : event_of t (world_of t es) s m ≡ None) where
      pub stays : node_at t (after t (world_of t es) s) m ≡ node_at t (world_of t es) m
      stays = nodes-by.each m below ∙ ap (after_any (wiring_of t) (node_at t w m)) none

      same-offers : (p : ℕ) → p < length t.loopbacks → offers_in t (after t w s) m p ≡ offers_in t w m p
      same-offers p under = sym (offers-alike t (after t w s) m p under) ∙ ap (λ n. offers (wiring_of t) (knowledge_in n) m p) stays
          ∙ offers-alike t w m p under

      both-ways : (b : Bool) → (not b && b) ≡ false
      both-ways true = refl
      both-ways false = refl

      ways-both : (b : Bool) → (b && not b) ≡ false
      ways-both true = refl
      ways-both false = refl

      pub labels-stay : labels_of t (pushed es tick s) m ≡ labels_of t es m
      labels-stay =
          labels-more t es tick s m
          ∙ ap (offered (ledger.is_free t w m (rested_of t es m) tick) (attached_in t w s m (labels_of t es m)))
          (filter-none (ledger.begins_offer t w s m) (nodes_of (wiring_of t)) (λ p i.
          let under : p < length t.loopbacks = omega (arith, (in_range 0 (length t.loopbacks) p i).1) in
          ap (λ b. not (p == m) && (not (offers_in t w m p) && b)) (same-offers p under)
          ∙ ap (λ b. not (p == m) && b) (both-ways (offers_in t w m p)) ∙ and_false (not (p == m))))
          ∙ none_attached t w s m (labels_of t es m) moves

      pub rests-stay : (r : Resting) → IsResting t (world_of t es) (rested_of t es m) m r →
          IsResting t (after t (world_of t es) s) (rested_of t (pushed es tick s) m) m r
      rests-stay r is =
          subst (λ fecs. IsResting t (after t w s) (rested_of t (pushed es tick s) m) m (all_stopped tick r fecs))
          (filter-none (reuse.ends_offer t w s m) (nodes_of (wiring_of t)) (λ p i.
          let under : p < length t.loopbacks = omega (arith, (in_range 0 (length t.loopbacks) p i).1) in
          ap (λ b. offers_in t w m p && not b) (same-offers p under) ∙ ways-both (offers_in t w m p)))
          (counts [] (ap (said_any (wiring_of t) (node_at t w m)) none) tt r is None none)
