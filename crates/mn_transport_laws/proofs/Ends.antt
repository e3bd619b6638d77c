-- Both ends of a link act as its session opens or closes.
use Rattle.std.proofs.Common.{ℕ, ◌≡◌, ◌≢◌, ◌<◌, ◌≤◌, inl, inr, true, false, List, [], ◌∷◌, ◌++◌, length, map, drop, arith, sym, ◌∙◌, ap, subst}
use Rattle.std.proofs.Common.{None, Some, append-nil, append_assoc}
use Rattle.std.specs.Prelude.{slice_get, slice_set}
use Rattle.std.specs.List.{flat_map}
use Rattle.std.proofs.Math.ListN.{length-set}
use Rattle.std.proofs.lemmas.Bool.Decides.{eqb_tells}
use Rattle.std.proofs.lemmas.List.{length-append, map-append}
use Rattle.std.proofs.lemmas.Option.{slice_get_within}
use Rattle.mn_wiring.specs.Wiring.{Wiring, link, is_end, sender, receiver}
use Rattle.mn_wiring.specs.declared.links.Dir.{Dir}
use Rattle.mn_flight.specs.declared.Item.{Item}
use Rattle.mn_topo.specs.Network.{Network, wiring_of}
use Rattle.mn_topo.specs.Lawful.{IsLawful}
use Rattle.mn_topo.specs.declared.steps.Step.{Step}
use Rattle.mn_topo.specs.declared.steps.JournalEntry.{JournalEntry}
use Rattle.mn_node.specs.Ldp.{Message, messages_of}
use Rattle.mn_node.specs.Machine.{Event, said, said_any, changed}
use Rattle.mn_ledger.specs.World.{World, Sessions}
use Rattle.mn_ledger.specs.Transport.{is_transport, ldp_restarted, ldp_counted, with_said}
use Rattle.mn_ledger.specs.Ledger.{after, world_of}
use Rattle.mn_ledger.specs.Lawful.{IsLawfulJournal}
use Rattle.mn_ledger.specs.Items.{message_of}
use Rattle.mn_ledger.proofs.Turning.{is_end-a, is_end-b, dir_ends}
use Rattle.mn_ledger.proofs.GoingBy.{put_here, put_off}
use Rattle.mn_ledger.proofs.Mentions.{messages-append}
use Rattle.mn_slice_laws.specs.Slice.{node_at, event_of, acting}
use Rattle.mn_slice_laws.specs.Steps.{node_says}
use Rattle.mn_frame_laws.specs.Given.{given}
use Rattle.mn_lsr.specs.Standing.{Standing}
use Rattle.mn_transport_laws.specs.Carried.{Carried}
use Rattle.mn_transport_laws.specs.Sending.{spelled, off_link}
use Rattle.mn_reuse_laws.specs.Resting.{rested_of}
use Rattle.mn_reuse_laws.specs.Relabelled.{Labelling, event_with, labels_at}
use Rattle.mn_timetable_laws.specs.Steps.{pushed}
use Rattle.mn_ldp_session.specs.Spelling.{pdus}
use Rattle.mn_transport_laws.specs.Acting.{Becomes, Acts}
use Rattle.mn_transport_laws.specs.Doing.{TurnsEnds}
use Rattle.mn_transport_laws.specs.Stands.{IsNode}
use Rattle.mn_transport_laws.specs.Steps.{IsTurn}
use Rattle.mn_transport_laws.proofs.Lists.{get-set_other, Each, each-set}
use Rattle.mn_transport_laws.proofs.Nodes.{node-then, node-still}
use Rattle.mn_transport_laws.proofs.Own.{AllOwn, IsHere, own-event}
use Rattle.mn_transport_laws.proofs.Spelled.{FliesAs, none-of-mine}
use Rattle.mn_transport_laws.proofs.Channels.{cut-here, cut-off}
use Rattle.mn_transport_laws.proofs.Puts.{Puts, puts-act, puts-both, puts-none, each-own}
use Rattle.mn_transport_laws.proofs.Stepping.{sessions-then, event_then, says}
use Rattle.mn_transport_laws.proofs.Flown.{pdus-are, acts-flies}
use Rattle.mn_slice_laws.proofs.Nodes.{off_end as end-of}

-- 1. A life begins or ends

-- what flies on the link is cut, as nothing was sent in the new life
pub cut-anew : (w : Wiring) (g : Labelling) (s : Sessions) (l k : ℕ) (dir : Dir) (items : List (Item (List ℕ))) →
    FliesAs w g k dir (s.heard k (receiver w k dir)) (s.said k (sender w k dir)) items
    → FliesAs w g k dir ((ldp_restarted s l).heard k (receiver w k dir)) ((ldp_restarted s l).said k (sender w k dir)) (off_link l items)
cut-anew w g s l k dir items flies = elim (eqb_tells k l) [
  | inl p ↦ subst (λ j. FliesAs w g j dir ((ldp_restarted s l).heard j (receiver w j dir)) ((ldp_restarted s l).said j (sender w j dir)) (off_link l items))
      (sym p.1)
      (cut-here l dir items
      ∙ sym (ap (λ f. drop ((ldp_restarted s l).heard l (receiver w l dir)) (spelled w g l (sender w l dir) 1 (f (sender w l dir))))
      (put_here s.said l (λ node. []))
      ∙ ap (λ f. drop (f (receiver w l dir)) (let none : List (List ℕ) = [] in none)) (put_here s.heard l (λ node. 0))))
  | inr p ↦ cut-off k l dir items p.1 ∙ flies
      ∙ sym (ap (λ f. drop ((ldp_restarted s l).heard k (receiver w k dir)) (spelled w g k (sender w k dir) 1 (f (sender w k dir))))
      (put_off s.said l (λ node. []) k p.1)
      ∙ ap (λ f. drop (f (receiver w k dir)) (spelled w g k (sender w k dir) 1 (s.said k (sender w k dir)))) (put_off s.heard l (λ node. 0) k p.1))
]

pub heard-anew : (w : Wiring) (s : Sessions) (l k r far : ℕ) → s.heard k r ≤ length (s.said k far) →
    (ldp_restarted s l).heard k r ≤ length ((ldp_restarted s l).said k far)
heard-anew w s l k r far h = elim (eqb_tells k l) [
  | inl p ↦ (let none : (ldp_restarted s l).heard k r ≡ 0 = ap (λ j. (ldp_restarted s l).heard j r) p.1 ∙ ap (λ f. f r) (put_here s.heard l (λ node. 0)) in
      omega (arith, none))
  | inr p ↦ (let a : (ldp_restarted s l).heard k r ≡ s.heard k r = ap (λ f. f r) (put_off s.heard l (λ node. 0) k p.1) in
      let b : length ((ldp_restarted s l).said k far) ≡ length (s.said k far) = ap (λ f. length (f far)) (put_off s.said l (λ node. []) k p.1) in
      omega (arith, a, b, h))
]

-- no end has received more than was sent
pub heard-within : (t : Network) (w : World) (s : Step) (lawful : IsLawful t) → IsTurn t w s → (k : ℕ) (dir : Dir) → k < length t.links
    → w.sessions.heard k (receiver (wiring_of t) k dir) ≤ length (w.sessions.said k (sender (wiring_of t) k dir))
heard-within t w s lawful turn k dir h =
    let ends = dir_ends (wiring_of t) k dir (lawful.ends_differ k h) in
    subst (λ far. w.sessions.heard k (receiver (wiring_of t) k dir) ≤ length (w.sessions.said k far)) ends.1
    (turn.turn.ldp k (receiver (wiring_of t) k dir) h ends.0).heard

-- 2. Both ends act

module _ (t : Network) (lawful : IsLawful t) (es : List JournalEntry) (ps : List (List ℕ)) (journal : IsLawfulJournal t es ps) (tick : ℕ) (s : Step)
    (turn : IsTurn t (world_of t es) s) (moves : is_transport s ≡ true)
    (l : ℕ) (there : l < length t.links) (acts_are : acting t s ≡ (link (wiring_of t) l).a.0 ∷ (link (wiring_of t) l).b.0 ∷ [])
    (counts_are : ldp_counted t (world_of t es).sessions s ≡ ldp_restarted (world_of t es).sessions l)
    (attached : (site : ℕ) → (after t (world_of t es) s).config.attached site ≡ (world_of t es).config.attached site) where
  abbrev w : World
  w = world_of t es

  -- the labels of after
  abbrev own : Labelling
  own = labels_at t (pushed es tick s)

  abbrev IsWas : ℕ → Standing → Type 0
  IsWas n x = IsNode t (given t es) (rested_of t es) (world_of t es) n x

  abbrev IsThen : ℕ → Standing → Type 0
  IsThen n x = IsNode t (given t (pushed es tick s)) (rested_of t (pushed es tick s)) (after t (world_of t es) s) n x

  abbrev end_a : ℕ
  end_a = (link (wiring_of t) l).a.0

  abbrev end_b : ℕ
  end_b = (link (wiring_of t) l).b.0

  sessions-are : (after t w s).sessions ≡ with_said (ldp_restarted w.sessions l) (node_says t w s end_a ++ (node_says t w s end_b ++ []))
  sessions-are = sessions-then t lawful es ps journal tick s turn moves
      ∙ ap (λ ms. with_said (ldp_counted t w.sessions s) (flat_map (node_says t w s) ms)) acts_are
      ∙ ap (λ k. with_said k (node_says t w s end_a ++ (node_says t w s end_b ++ []))) counts_are

  flies-by : (k : ℕ) (dir : Dir) (items : List (Item (List ℕ))) (a b : List Message)
      → messages_of k (sender (wiring_of t) k dir) (node_says t w s end_a) ≡ a → messages_of k (sender (wiring_of t) k dir) (node_says t w s end_b) ≡ b
      → FliesAs (wiring_of t) own k dir ((ldp_restarted w.sessions l).heard k (receiver (wiring_of t) k dir))
      (((ldp_restarted w.sessions l).said k (sender (wiring_of t) k dir) ++ a) ++ b) items
      → FliesAs (wiring_of t) own k dir ((after t w s).sessions.heard k (receiver (wiring_of t) k dir))
      ((after t w s).sessions.said k (sender (wiring_of t) k dir)) items
  flies-by k dir items a b is_a is_b flies =
      let me : ℕ = sender (wiring_of t) k dir in
      let base : List Message = (ldp_restarted w.sessions l).said k me in
      let all : base ++ messages_of k me (node_says t w s end_a ++ (node_says t w s end_b ++ [])) ≡ (base ++ a) ++ b =
      ap (λ ms. base ++ ms) (messages-append k me (node_says t w s end_a) (node_says t w s end_b ++ [])
      ∙ ap (λ xs. messages_of k me (node_says t w s end_a) ++ messages_of k me xs) (append-nil (node_says t w s end_b))
      ∙ ap (λ ms. ms ++ messages_of k me (node_says t w s end_b)) is_a ∙ ap (λ ms. a ++ ms) is_b)
      ∙ sym (append_assoc base a b) in
      subst (λ (x : Sessions). FliesAs (wiring_of t) own k dir (x.heard k (receiver (wiring_of t) k dir)) (x.said k me) items) (sym sessions-are)
      (subst (λ ms. FliesAs (wiring_of t) own k dir ((ldp_restarted w.sessions l).heard k (receiver (wiring_of t) k dir)) ms items) (sym all) flies)

  -- where nothing happens to either
  pub quiet-flies : ((n : ℕ) → event_of t w s n ≡ None) → (k : ℕ) (dir : Dir) (items : List (Item (List ℕ)))
      → FliesAs (wiring_of t) own k dir (w.sessions.heard k (receiver (wiring_of t) k dir)) (w.sessions.said k (sender (wiring_of t) k dir)) items
      → FliesAs (wiring_of t) own k dir ((after t w s).sessions.heard k (receiver (wiring_of t) k dir))
      ((after t w s).sessions.said k (sender (wiring_of t) k dir)) (off_link l items)
  quiet-flies none k dir items flies =
      let me : ℕ = sender (wiring_of t) k dir in
      flies-by k dir (off_link l items) [] [] (ap (λ e. messages_of k me (said_any (wiring_of t) (node_at t w end_a) e)) (none end_a))
      (ap (λ e. messages_of k me (said_any (wiring_of t) (node_at t w end_b) e)) (none end_b))
      (subst (λ ms. FliesAs (wiring_of t) own k dir ((ldp_restarted w.sessions l).heard k (receiver (wiring_of t) k dir)) ms (off_link l items))
      (sym (append-nil ((ldp_restarted w.sessions l).said k me ++ []) ∙ append-nil ((ldp_restarted w.sessions l).said k me)))
      (cut-anew (wiring_of t) own w.sessions l k dir items flies))

  pub quiet-nodes : ((n : ℕ) → event_of t w s n ≡ None) → (nodes : List Standing) → length nodes ≡ length t.loopbacks
      → Each IsWas nodes → Each IsThen nodes
  quiet-nodes none nodes each are n x is =
      let below : n < length t.loopbacks = subst (λ k. n < k) each (slice_get_within nodes n x is) in
      node-still t lawful es ps journal tick s turn moves attached n below (none n) x (are n x is)

  pub quiet-puts : ((n : ℕ) → event_of t w s n ≡ None) → (number next : ℕ) (old new : List (Item (List ℕ))) → new ≡ old → next ≡ number
      → Puts t tick number (map message_of (flat_map (node_says t w s) (acting t s))) old new next
  quiet-puts none number next old new same e =
      subst (λ xs. Puts t tick number xs old new next)
      (ap (λ o. map message_of (said_any (wiring_of t) (node_at t w end_a) o ++ [])) (sym (none end_a))
      ∙ ap (λ o. map message_of (node_says t w s end_a ++ (said_any (wiring_of t) (node_at t w end_b) o ++ []))) (sym (none end_b))
      ∙ ap (λ ms. map message_of (flat_map (node_says t w s) ms)) (sym acts_are))
      (puts-none t tick number old new next same e)

  -- where the same happens to both
  module _ (e : Event) (ends : (n : ℕ) → is_end (wiring_of t) l n ≡ true → event_of t w s n ≡ Some e) (others : (n : ℕ) → is_end (wiring_of t) l n ≡ false →
      event_of t w s n ≡ None)
      (here : (n : ℕ) → is_end (wiring_of t) l n ≡ true → IsHere (wiring_of t) (node_at t w n) e)
      (plain : (n : ℕ) → event_with (wiring_of t) (labels_at t (pushed es tick s)) n e ≡ e)
      (number next : ℕ) (old new : Carried) (did : TurnsEnds t tick number l e old new next)
      (each : length old.nodes ≡ length t.loopbacks) (are : Each IsWas old.nodes) where
    differ : end_a ≢ end_b
    differ = lawful.ends_differ l there

    middle_nodes : did.middle.nodes ≡ slice_set old.nodes end_a did.first.now
    middle_nodes = ap (λ (c : Carried). c.nodes) did.first.new_is

    -- the second end is still what it was
    second_there : slice_get old.nodes end_b ≡ Some did.second.was
    second_there = sym (get-set_other old.nodes end_a end_b did.first.now differ) ∙ ap (λ xs. slice_get xs end_b) (sym middle_nodes) ∙ did.second.there

    first_is : IsWas end_a did.first.was
    first_is = are end_a did.first.was did.first.there

    second_is : IsWas end_b did.second.was
    second_is = are end_b did.second.was second_there

    a_below : end_a < length t.loopbacks
    a_below = (lawful.joins_nodes l there).0

    b_below : end_b < length t.loopbacks
    b_below = (lawful.joins_nodes l there).1

    a_happens : event_of t (world_of t es) s end_a ≡ Some e
    a_happens = ends end_a (is_end-a (wiring_of t) l)

    b_happens : event_of t (world_of t es) s end_b ≡ Some e
    b_happens = ends end_b (is_end-b (wiring_of t) l)

    -- such an event brings no label
    first_acts : Acts t tick number end_a (event_then t lawful es ps journal tick s turn moves end_a a_below e a_happens) old did.middle did.second_number
    first_acts = subst (λ x. Acts t tick number end_a x old did.middle did.second_number) (sym (plain end_a)) did.first

    second_acts : Acts t tick did.second_number end_b (event_then t lawful es ps journal tick s turn moves end_b b_below e b_happens) did.middle new next
    second_acts = subst (λ x. Acts t tick did.second_number end_b x did.middle new next) (sym (plain end_b)) did.second

    first_acts_is : IsWas end_a first_acts.was
    first_acts_is = are end_a first_acts.was first_acts.there

    second_acts_is : IsWas end_b second_acts.was
    second_acts_is = are end_b second_acts.was
        (sym (get-set_other old.nodes end_a end_b did.first.now differ) ∙ ap (λ xs. slice_get xs end_b) (sym middle_nodes) ∙ second_acts.there)

    pub turned-nodes : Each IsThen new.nodes
    turned-nodes =
        subst (Each IsThen) (sym (ap (λ (c : Carried). c.nodes) did.second.new_is))
        (each-set IsThen did.middle.nodes end_b did.second.was did.second.now did.second.there
        (node-then t lawful es ps journal tick s turn moves attached end_b b_below e b_happens (here end_b (is_end-b (wiring_of t) l)) did.second.was
        did.second.now second_is
        (subst (λ x. Becomes tick x did.second.was did.second.now) (sym (plain end_b)) did.second.becomes))
        (λ n x apart is. rest n x apart (subst (λ xs. slice_get xs n ≡ Some x) middle_nodes is)))
      where
        rest : (n : ℕ) (x : Standing) → n ≢ end_b → slice_get (slice_set old.nodes end_a did.first.now) n ≡ Some x → IsThen n x
        rest n x apart is =
            each-set (λ m y. m ≢ end_b → IsThen m y) old.nodes end_a did.first.was did.first.now did.first.there
            (λ d. node-then t lawful es ps journal tick s turn moves attached end_a a_below e a_happens (here end_a (is_end-a (wiring_of t) l)) did.first.was
            did.first.now first_is
            (subst (λ x. Becomes tick x did.first.was did.first.now) (sym (plain end_a)) did.first.becomes))
            (λ m y off at d.
            let below : m < length t.loopbacks = subst (λ k. m < k) each (slice_get_within old.nodes m y at) in
            node-still t lawful es ps journal tick s turn moves attached m below (others m (end-of (wiring_of t) l m off d)) y (are m y at))
            n x is apart

    pub turned-each : length new.nodes ≡ length t.loopbacks
    turned-each =
        ap (λ (c : Carried). length c.nodes) did.second.new_is ∙ length-set did.middle.nodes end_b did.second.now
        ∙ ap length middle_nodes ∙ length-set old.nodes end_a did.first.now ∙ each

    own_a : AllOwn (wiring_of t) (changed (wiring_of t) (node_at t w end_a) e) end_a (said (wiring_of t) (node_at t w end_a) e)
    own_a = own-event (wiring_of t) (node_at t w end_a) e (here end_a (is_end-a (wiring_of t) l))

    pub turned-flies : (k : ℕ) (dir : Dir) → k < length t.links
        → FliesAs (wiring_of t) own k dir ((ldp_restarted w.sessions l).heard k (receiver (wiring_of t) k dir))
        ((ldp_restarted w.sessions l).said k (sender (wiring_of t) k dir)) old.messages
        → FliesAs (wiring_of t) own k dir ((after t w s).sessions.heard k (receiver (wiring_of t) k dir))
        ((after t w s).sessions.said k (sender (wiring_of t) k dir)) new.messages
    turned-flies k dir h flies =
        let me : ℕ = sender (wiring_of t) k dir in
        let heard : ℕ = (ldp_restarted w.sessions l).heard k (receiver (wiring_of t) k dir) in
        let base : List Message = (ldp_restarted w.sessions l).said k me in
        let a : List Message = messages_of k me (said (wiring_of t) (node_at t w end_a) e) in
        let b : List Message = messages_of k me (said (wiring_of t) (node_at t w end_b) e) in
        let within : heard ≤ length base = heard-anew (wiring_of t) w.sessions l k (receiver (wiring_of t) k dir) me (heard-within t w s lawful turn k dir h) in
        let size : (n : ℕ) → me ≡ n → length base ≡ length ((ldp_counted t w.sessions s).said k n) =
        λ n sends. ap (λ m. length ((ldp_restarted w.sessions l).said k m)) sends ∙ sym (ap (λ (x : Sessions). length (x.said k n)) counts_are) in
        let one : FliesAs (wiring_of t) own k dir heard (base ++ a) did.middle.messages =
        acts-flies t lawful es ps journal tick s turn moves number end_a did.second_number a_below e a_happens old did.middle first_acts
        first_acts_is (here end_a (is_end-a (wiring_of t) l)) k dir heard base h within (size end_a) flies in
        let two : FliesAs (wiring_of t) own k dir heard ((base ++ a) ++ b) new.messages =
        acts-flies t lawful es ps journal tick s turn moves did.second_number end_b next b_below e b_happens did.middle new second_acts
        second_acts_is (here end_b (is_end-b (wiring_of t) l)) k dir heard (base ++ a) h (let longer = length-append base a in omega (arith, within, longer))
        (λ sends. ap (λ ms. length (base ++ ms))
        (none-of-mine (wiring_of t) k me end_a (changed (wiring_of t) (node_at t w end_a) e) (said (wiring_of t) (node_at t w end_a) e)
        (λ q. differ (sym q ∙ sends)) own_a)
        ∙ ap length (append-nil base) ∙ size end_b sends) one in
        flies-by k dir new.messages a b (ap (λ o. messages_of k me (said_any (wiring_of t) (node_at t w end_a) o)) (ends end_a (is_end-a (wiring_of t) l)))
        (ap (λ o. messages_of k me (said_any (wiring_of t) (node_at t w end_b) o)) (ends end_b (is_end-b (wiring_of t) l))) two

    own_b : AllOwn (wiring_of t) (changed (wiring_of t) (node_at t w end_b) e) end_b (said (wiring_of t) (node_at t w end_b) e)
    own_b = own-event (wiring_of t) (node_at t w end_b) e (here end_b (is_end-b (wiring_of t) l))

    says-are : map message_of (said (wiring_of t) (node_at t w end_a) e) ++ map message_of (said (wiring_of t) (node_at t w end_b) e) ≡ map message_of
        (flat_map (node_says t w s) (acting t s))
    says-are =
        sym (map-append message_of (said (wiring_of t) (node_at t w end_a) e) (said (wiring_of t) (node_at t w end_b) e))
        ∙ ap (λ xs. map message_of (said (wiring_of t) (node_at t w end_a) e ++ xs)) (sym (append-nil (said (wiring_of t) (node_at t w end_b) e)))
        ∙ ap (λ o. map message_of (said_any (wiring_of t) (node_at t w end_a) o ++ (said (wiring_of t) (node_at t w end_b) e ++ [])))
        (sym (ends end_a (is_end-a (wiring_of t) l)))
        ∙ ap (λ o. map message_of (node_says t w s end_a ++ (said_any (wiring_of t) (node_at t w end_b) o ++ []))) (sym (ends end_b (is_end-b (wiring_of t) l)))
        ∙ ap (λ ms. map message_of (flat_map (node_says t w s) ms)) (sym acts_are)

    pub turned-puts : Puts t tick number (map message_of (flat_map (node_says t w s) (acting t s))) old.messages new.messages next
    turned-puts =
        subst (λ xs. Puts t tick number xs old.messages new.messages next) says-are
        (puts-both t tick number did.second_number next (map message_of (said (wiring_of t) (node_at t w end_a) e))
        (map message_of (said (wiring_of t) (node_at t w end_b) e)) old.messages did.middle.messages new.messages
        (puts-act t tick number end_a did.second_number _ old did.middle first_acts (own end_a) _ _ (said (wiring_of t) (node_at t w end_a) e)
        (pdus-are t lawful es ps journal tick s turn moves end_a a_below e a_happens first_acts.was first_acts_is
        ∙ ap (pdus (wiring_of t) (own end_a) _ _) (says t lawful es ps journal tick s turn moves end_a a_below e a_happens))
        (each-own (wiring_of t) (changed (wiring_of t) (node_at t w end_a) e) end_a (said (wiring_of t) (node_at t w end_a) e) own_a))
        (puts-act t tick did.second_number end_b next _ did.middle new second_acts (own end_b) _ _ (said (wiring_of t) (node_at t w end_b) e)
        (pdus-are t lawful es ps journal tick s turn moves end_b b_below e b_happens second_acts.was second_acts_is
        ∙ ap (pdus (wiring_of t) (own end_b) _ _) (says t lawful es ps journal tick s turn moves end_b b_below e b_happens))
        (each-own (wiring_of t) (changed (wiring_of t) (node_at t w end_b) e) end_b (said (wiring_of t) (node_at t w end_b) e) own_b)))
