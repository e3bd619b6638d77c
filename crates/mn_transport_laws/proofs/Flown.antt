-- What flies once nodes have acted is the spelling of what was sent, and of what they said.
use Rattle.std.proofs.Common.{ℕ, ◌≡◌, ◌≢◌, ◌<◌, ◌≤◌, inl, inr, Bool, true, false, List, [], ◌∷◌, ◌++◌, length, map, refl, sym, ◌∙◌, ap, subst, Option, None}
use Rattle.std.proofs.Common.{Some}
use Rattle.std.specs.Prelude.{◌&&◌, ◌==◌, if◌then◌else◌, filter, option_map}
use Rattle.std.proofs.lemmas.Bool.Decides.{eqb_tells}
use Rattle.mn_wiring.specs.Wiring.{Wiring, nodes_of, is_end, across, sender, receiver}
use Rattle.mn_wiring.specs.declared.links.Dir.{Dir}
use Rattle.mn_topo.specs.Network.{Network, wiring_of}
use Rattle.mn_topo.specs.Lawful.{IsLawful}
use Rattle.mn_topo.specs.declared.steps.Step.{Step}
use Rattle.mn_node.specs.Ldp.{Message, Said, messages_of}
use Rattle.mn_node.specs.Node.{Session, Node, session_at}
use Rattle.mn_node.specs.Machine.{Event, Learns, Opens, Closes, Hears, changed, said}
use Rattle.mn_ldp_session.specs.Spelling.{count_of, pdus}
use Rattle.mn_ledger.specs.World.{World, Config, Views, Sessions}
use Rattle.mn_ledger.specs.Transport.{is_transport, lives, ldp_state_of, heard_by, views_after, ldp_counted}
use Rattle.mn_ledger.specs.Ledger.{config_after, no_packets}
use Rattle.mn_ledger.proofs.InTurn.{rows}
use Rattle.mn_slice_laws.specs.Slice.{label_heard, node_of, node_at, event_of}
use Rattle.mn_slice_laws.proofs.Changing.{session_at-is, changed_any}
use Rattle.mn_slice_laws.proofs.Whole.{changes}
use Rattle.mn_topo.specs.declared.steps.JournalEntry.{JournalEntry}
use Rattle.mn_ledger.specs.Ledger.{world_of}
use Rattle.mn_ledger.specs.Lawful.{IsLawfulJournal}
use Rattle.mn_labels.specs.Labels.{own_labels}
use Rattle.mn_reuse_laws.specs.Resting.{rested_of}
use Rattle.mn_reuse_laws.specs.Relabelled.{Labelling, session_with, node_with, event_with, labels_at}
use Rattle.mn_reuse_laws.proofs.Relabelling.{changed_with}
use Rattle.mn_frame_laws.specs.Given.{given}
use Rattle.mn_timetable_laws.specs.Steps.{pushed}
use Rattle.mn_lsr.specs.Standing.{Standing}
use Rattle.mn_lsr.specs.Turns.{kept_in}
use Rattle.mn_transport_laws.specs.Carried.{Carried}
use Rattle.mn_transport_laws.specs.Sending.{put_pdus, pdus_in, released_by}
use Rattle.mn_transport_laws.specs.Acting.{Acts}
use Rattle.mn_transport_laws.specs.Stands.{IsNode, StandsFor}
use Rattle.mn_transport_laws.specs.Steps.{IsTurn}
use Rattle.mn_transport_laws.proofs.Own.{AllOwn, IsHere, own-event}
use Rattle.mn_transport_laws.proofs.Releases.{IsBrought, releases}
use Rattle.mn_transport_laws.proofs.Spelled.{FliesAs, flies-on}
use Rattle.mn_transport_laws.proofs.Goings.{session-with}
use Rattle.mn_transport_laws.proofs.Stepping.{node_before, event_then, says, labels-go}
use Rattle.mn_transport_laws.proofs.Nodes.{own-is, was-kept}
use Rattle.mn_transport_laws.proofs.Relabelled.{flies-same, same-in-flight}

-- 1. The machine

pub me-same : (w : Wiring) (n : Node) (e : Event) → (changed w n e).me ≡ n.me
me-same w n (Learns l) = refl
me-same w n (Opens l) = refl
me-same w n (Closes l) = refl
me-same w n (Hears l message label) = refl

-- who says something on a link has a session there
own-lives : (w : Wiring) (n : Node) (l me : ℕ) (xs : List Said) → AllOwn w n me xs → messages_of l me xs ≢ [] → session_at n l ≢ None
own-lives w n l me [] own some = absurd (some refl)
own-lives w n l me (x ∷ xs) own some = elim (eqb_tells x.link l) [
  | inl p ↦ subst (λ k. session_at n k ≢ None) p.1 own.0.lives
  | inr p ↦ own-lives w n l me xs own.1 (λ none. some (skipped (x.link == l) p.0 ∙ none))
]
  where
    skipped : (b : Bool) → b ≡ false →
        map (λ (said : Said). said.message)
        (if b && (x.end == me) then x ∷ filter (λ y. (y.link == l) && (y.end == me)) xs else filter (λ y. (y.link == l) && (y.end == me)) xs) ≡ messages_of
        l me xs
    skipped true e = cc
    skipped false e = refl

-- 2. Other labels

-- with other labels a session has sent as much
pub count-with : (f : ℕ → ℕ) (o : Option Session) → count_of (option_map (session_with f) o) ≡ count_of o
count-with f None = refl
count-with f (Some session) = refl

own-with : (w : Wiring) (g : Labelling) (n : Node) (me : ℕ) (xs : List Said) → AllOwn w n me xs → AllOwn w (node_with w g n) me xs
own-with w g n me [] h = tt
own-with w g n me (x ∷ xs) h = (
  record {
    by = h.0.by;
    there = h.0.there;
    at_end = h.0.at_end;
    lives = λ none. alive (session_at n x.link) h.0.lives (sym (session-with w g n x.link) ∙ none);
  },
  own-with w g n me xs h.1,
)
  where
    alive : (o : Option Session) → o ≢ None → option_map (session_with (g (across w x.link n.me))) o ≡ None → ⊥
    alive None h e = h refl
    alive (Some session) h e = cc

brought-with : (w : Wiring) (g : Labelling) (n : Node) (e : Event) → IsBrought w g (node_with w g n) (event_with w g n.me e)
brought-with w g n (Learns l) = tt
brought-with w g n (Opens l) = tt
brought-with w g n (Closes l) = tt
brought-with w g n (Hears l message label) = refl

-- 3. The ledger

count-at : (t : Network) (c : Config) (v : Views) (k : Sessions) (m l : ℕ) → l < length t.links → session_at (node_of t c v k m) l ≢ None →
    count_of (session_at (node_of t c v k m) l) ≡ length (k.said l m)
count-at t c v k m l h some =
    ap count_of (session_at-is t c v k m l h)
    ∙ by (lives c l && is_end (wiring_of t) l m) (λ none. some (session_at-is t c v k m l h ∙ none))
  where
    by : (b : Bool) →
        (let o : Option Session =
        if b then Some (record {
          state = ldp_state_of t k l m;
          said = length (k.said l m);
          labels =
              map (label_heard (across (wiring_of t) l m) (heard_by (wiring_of t) k l m)) (nodes_of (wiring_of t));
        }) else None in o) ≢ None
        → count_of (let o : Option Session =
        if b then Some (record {
          state = ldp_state_of t k l m;
          said = length (k.said l m);
          labels =
              map (label_heard (across (wiring_of t) l m) (heard_by (wiring_of t) k l m)) (nodes_of (wiring_of t));
        }) else None in o) ≡ length (k.said l m)
    by true some = refl
    by false some = absurd (some refl)

module _ (t : Network) (lawful : IsLawful t) (es : List JournalEntry) (ps : List (List ℕ)) (journal : IsLawfulJournal t es ps) (tick : ℕ) (s : Step)
    (turn : IsTurn t (world_of t es) s) (moves : is_transport s ≡ true) where
  abbrev w : World
  w = world_of t es

  abbrev own : Labelling
  own = labels_at t (pushed es tick s)

  -- what flies before the step is spelled by the labels of after
  pub flies-before : (old : Carried) → StandsFor t (given t es) (rested_of t es) (world_of t es) old → (l : ℕ) (dir : Dir) → l < length t.links →
      FliesAs (wiring_of t) (labels_at t (pushed es tick s)) l dir ((world_of t es).sessions.heard l (receiver (wiring_of t) l dir))
      ((world_of t es).sessions.said l (sender (wiring_of t) l dir)) old.messages
  flies-before old stands l dir below =
      flies-same (wiring_of t) (labels_at t es) own l dir (w.sessions.heard l (receiver (wiring_of t) l dir)) (w.sessions.said l (sender (wiring_of t) l dir))
      old.messages
      (same-in-flight t lawful es ps journal _ turn.named l dir below)
      (subst (λ g. FliesAs (wiring_of t) g l dir (w.sessions.heard l (receiver (wiring_of t) l dir)) (w.sessions.said l (sender (wiring_of t) l dir))
      old.messages)
      (own-is t es) (stands.messages l dir below))

  settled : (m : ℕ) (e : Event) → event_of t w s m ≡ Some e
      → node_of t (config_after w.config s) (views_after w.views s) (ldp_counted t w.sessions s) m ≡ changed (wiring_of t) (node_at t w m) e
  settled m e is =
      changes t lawful w no_packets turn.turn (rows t w lawful turn.turn) s turn.fitting turn.changes turn.there m
      ∙ ap (changed_any (wiring_of t) (node_at t w m)) is

  module _ (m : ℕ) (below : m < length t.loopbacks) (e : Event) (happens : event_of t (world_of t es) s m ≡ Some e) (was : Standing)
      (is : IsNode t (given t es) (rested_of t es) (world_of t es) m was) where
    abbrev before_it : Node
    before_it = node_before t lawful es ps journal tick s turn moves m

    abbrev event : Event
    event = event_then t lawful es ps journal tick s turn moves m below e happens

    -- what it says, by its labels then
    pub pdus-are : pdus_in (wiring_of t) tick (kept_in was) (event_then t lawful es ps journal tick s turn moves m below e happens)
        ≡ pdus (wiring_of t) (labels_at t (pushed es tick s) m) (released_by event) (changed (wiring_of t) before_it event) (said (wiring_of t) before_it event)
    pdus-are =
        ap (λ k. pdus_in (wiring_of t) tick k event) (was-kept t lawful es ps journal tick s turn moves m was is)
        ∙ ap (λ labels. pdus (wiring_of t) (own_labels m labels) (released_by event) (changed (wiring_of t) before_it event)
        (said (wiring_of t) before_it event))
        (labels-go t lawful es ps journal tick s turn moves m below e happens was.resting is.resting)

  -- a node acts
  pub acts-flies : (number m next : ℕ) (below : m < length t.loopbacks) (e : Event) (happens : event_of t (world_of t es) s m ≡ Some e) (old new : Carried)
      (acts : Acts t tick number m (event_then t lawful es ps journal tick s turn moves m below e happens) old new next)
      → IsNode t (given t es) (rested_of t es) (world_of t es) m acts.was → IsHere (wiring_of t) (node_at t (world_of t es) m) e
      → (l : ℕ) (dir : Dir) (heard : ℕ) (before : List Message) → l < length t.links → heard ≤ length before
      → (sender (wiring_of t) l dir ≡ m → length before ≡ length ((ldp_counted t (world_of t es).sessions s).said l m))
      → FliesAs (wiring_of t) (labels_at t (pushed es tick s)) l dir heard before old.messages
      → FliesAs (wiring_of t) (labels_at t (pushed es tick s)) l dir heard
      (before ++ messages_of l (sender (wiring_of t) l dir) (said (wiring_of t) (node_at t (world_of t es) m) e)) new.messages
  acts-flies number m next below e happens old new acts is here l dir heard before inside within size flies =
      subst (λ xs. FliesAs (wiring_of t) own l dir heard (before ++ messages_of l (sender (wiring_of t) l dir) xs) new.messages)
      (says t lawful es ps journal tick s turn moves m below e happens)
      (subst (FliesAs (wiring_of t) own l dir heard (before ++ messages_of l (sender (wiring_of t) l dir) (said (wiring_of t) before_node event_it)))
      (sym (ap (λ (c : Carried). c.messages) acts.new_is
      ∙ ap (λ ps. old.messages ++ put_pdus (wiring_of t) m tick number ps) (pdus-are m below e happens acts.was is)))
      (flies-on (wiring_of t) own l m dir tick number (released_by event_it) heard before (changed (wiring_of t) before_node event_it)
      (said (wiring_of t) before_node event_it) old.messages (me-same (wiring_of t) before_node event_it) lawful.ends_differ own_then
      (releases (wiring_of t) own before_node event_it (brought-with (wiring_of t) own (node_at t w m) e)) within counts flies))
    where
      before_node : Node
      before_node = node_before t lawful es ps journal tick s turn moves m

      event_it : Event
      event_it = event_then t lawful es ps journal tick s turn moves m below e happens

      own_then : AllOwn (wiring_of t) (changed (wiring_of t) before_node event_it) m (said (wiring_of t) before_node event_it)
      own_then =
          subst (AllOwn (wiring_of t) (changed (wiring_of t) before_node event_it) m) (sym (says t lawful es ps journal tick s turn moves m below e happens))
          (subst (λ n. AllOwn (wiring_of t) n m (said (wiring_of t) (node_at t w m) e)) (sym (changed_with (wiring_of t) own (node_at t w m) e))
          (own-with (wiring_of t) own (changed (wiring_of t) (node_at t w m) e) m (said (wiring_of t) (node_at t w m) e)
          (own-event (wiring_of t) (node_at t w m) e here)))

      counts : sender (wiring_of t) l dir ≡ m → messages_of l m (said (wiring_of t) before_node event_it) ≢ [] →
          count_of (session_at (changed (wiring_of t) before_node event_it) l) ≡ length before
      counts sends some =
          let same = settled m e happens in
          let there : session_at (changed (wiring_of t) (node_at t w m) e) l ≢ None =
          own-lives (wiring_of t) (changed (wiring_of t) (node_at t w m) e) l m (said (wiring_of t) (node_at t w m) e)
          (own-event (wiring_of t) (node_at t w m) e here)
          (λ none. some (ap (messages_of l m) (says t lawful es ps journal tick s turn moves m below e happens) ∙ none)) in
          ap (λ n. count_of (session_at n l)) (changed_with (wiring_of t) own (node_at t w m) e)
          ∙ ap count_of (session-with (wiring_of t) own (changed (wiring_of t) (node_at t w m) e) l)
          ∙ count-with (own (across (wiring_of t) l (changed (wiring_of t) (node_at t w m) e).me)) (session_at (changed (wiring_of t) (node_at t w m) e) l)
          ∙ ap (λ n. count_of (session_at n l)) (sym same)
          ∙ count-at t (config_after w.config s) (views_after w.views s) (ldp_counted t w.sessions s) m l inside
          (λ none. there (ap (λ n. session_at n l) (sym same) ∙ none))
          ∙ sym (size sends)
