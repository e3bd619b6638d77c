-- One node acts, as it learns or receives.
use Rattle.std.proofs.Common.{ℕ, ◌≡◌, ◌≢◌, ◌+◌, ◌*◌, ◌<◌, ◌≤◌, inl, inr, Bool, true, false, not, List, [], ◌∷◌, ◌++◌, length, map, drop, refl, arith, sym}
use Rattle.std.proofs.Common.{◌∙◌, ap, subst, Option, None, Some, append-nil}
use Rattle.std.specs.Prelude.{◌==◌, nat_le, nat_lt, slice_get, slice_index, slice_index_or, option_map, if◌then◌else◌}
use Rattle.std.specs.List.{flat_map}
use Rattle.std.proofs.Math.ListN.{length-set}
use Rattle.std.proofs.lemmas.Bool.Decides.{eqb_tells, leb_tells}
use Rattle.std.proofs.lemmas.List.{get_or-set_same, get_or_past}
use Rattle.std.proofs.lemmas.Option.{slice_get_within}
use Rattle.mn_base.proofs.Bools.{less_tells, same_test, other_test, and_left, and_right, or_off, not_at_most_tells}
use Rattle.mn_wiring.specs.Wiring.{Wiring, is_end, across, sender, receiver}
use Rattle.mn_wiring.specs.declared.links.Dir.{Dir}
use Rattle.mn_wiring.specs.declared.links.Dir.TheVariants.{Forth, Back}
use Rattle.mn_base.specs.declared.numbers.LinkNo.{LinkNo}
use Rattle.mn_base.specs.declared.numbers.NodeNo.{NodeNo}
use Rattle.mn_flight.specs.declared.Item.{Item}
use Rattle.mn_flight.specs.Flying.{on_channel, without, IsFlight}
use Rattle.mn_topo.specs.Network.{Network, wiring_of}
use Rattle.mn_topo.specs.Lawful.{IsLawful}
use Rattle.mn_topo.specs.declared.steps.Step.{Step}
use Rattle.mn_topo.specs.declared.steps.Step.TheVariants as step
use Rattle.mn_topo.specs.declared.steps.JournalEntry.{JournalEntry}
use Rattle.mn_node.specs.Ldp.{Message, Address}
use Rattle.mn_node.specs.Node.{Session, Node, session_at}
use Rattle.mn_node.specs.Machine.{Event, Learns, Hears, session_after, changed, said, said_any}
use Rattle.mn_ldp_session.specs.Spelling.{pdus, pdu_in_network}
use Rattle.mn_ledger.specs.Packets.{channel}
use Rattle.mn_ledger.specs.World.{World, Sessions}
use Rattle.mn_ledger.specs.Transport.{is_transport, lives, ldp_counted, with_said}
use Rattle.mn_ledger.specs.Ledger.{after, world_of}
use Rattle.mn_ledger.specs.Lawful.{IsLawfulJournal}
use Rattle.mn_ledger.specs.Places.{home_of}
use Rattle.mn_reuse_laws.specs.Resting.{rested_of}
use Rattle.mn_reuse_laws.specs.Relabelled.{Labelling, event_with, labels_at}
use Rattle.mn_timetable_laws.specs.Steps.{pushed}
use Rattle.mn_lsr.specs.Standing.{Standing}
use Rattle.mn_ledger.specs.Items.{message_of}
use Rattle.mn_ledger.proofs.Turning.{dir_ends}
use Rattle.mn_ledger.proofs.GoingBy.{pair_here, pair_off}
use Rattle.mn_slice_laws.specs.Slice.{node_at, event_of, acting, hears_next}
use Rattle.mn_slice_laws.specs.Steps.{node_says}
use Rattle.mn_frame_laws.specs.Given.{given}
use Rattle.mn_ledger.proofs.Directions.{one_channel}
use Rattle.mn_timetable_laws.proofs.OtherKeys.{pair_one}
use Rattle.mn_transport_laws.specs.declared.notice.Notice.{Notice}
use Rattle.mn_transport_laws.specs.Carried.{Carried}
use Rattle.mn_transport_laws.specs.Sending.{spelled}
use Rattle.mn_transport_laws.specs.Acting.{Acts}
use Rattle.mn_transport_laws.specs.Doing.{LearnsNext, HearsNext, noticed, taken}
use Rattle.mn_transport_laws.specs.Stands.{IsNode, StandsFor, IsTransport}
use Rattle.mn_transport_laws.specs.Steps.{IsTurn}
use Rattle.mn_transport_laws.proofs.Lists.{Each, each-set}
use Rattle.mn_flight.proofs.OnChannels.{without_at, left_on, left_off}
use Rattle.mn_transport_laws.proofs.Nodes.{site-stays, node-then, node-still}
use Rattle.mn_transport_laws.proofs.Stepping.{sessions-then, event_then, says}
use Rattle.mn_transport_laws.proofs.Own.{AllOwn, IsHere, own-event}
use Rattle.mn_transport_laws.proofs.Puts.{Puts, puts-act, each-own}
use Rattle.mn_transport_laws.proofs.Spelled.{FliesAs}
use Rattle.mn_transport_laws.proofs.Heard.{next-spelled, first-item}
use Rattle.mn_transport_laws.proofs.Ready.{open-at}
use Rattle.mn_transport_laws.proofs.Flown.{flies-before, pdus-are, acts-flies}
use Rattle.mn_transport_laws.proofs.Ends.{heard-within}
use Rattle.mn_transport_laws.proofs.Goes.{Rest, act-rest, by-labels}

module _ (t : Network) (lawful : IsLawful t) (es : List JournalEntry) (ps : List (List ℕ)) (journal : IsLawfulJournal t es ps) (tick : ℕ) (s : Step)
    (turn : IsTurn t (world_of t es) s) (moves : is_transport s ≡ true)
    (m : ℕ) (below : m < length t.loopbacks) (acts_are : acting t s ≡ m ∷ []) (e : Event) (happens : event_of t (world_of t es) s m ≡ Some e)
    (others : (n : ℕ) → n ≢ m → event_of t (world_of t es) s n ≡ None) (here : IsHere (wiring_of t) (node_at t (world_of t es) m) e)
    (attached : (site : ℕ) → (after t (world_of t es) s).config.attached site ≡ (world_of t es).config.attached site)
    (number next : ℕ) (old new : Carried) (acts : Acts t tick number m (event_then t lawful es ps journal tick s turn moves m below e happens) old new next)
    (each : length old.nodes ≡ length t.loopbacks) (are : Each (λ n x. IsNode t (given t es) (rested_of t es) (world_of t es) n x) old.nodes) where
  abbrev w : World
  w = world_of t es

  abbrev own_then : Labelling
  own_then = labels_at t (pushed es tick s)

  abbrev IsThen : ℕ → Standing → Type 0
  IsThen n x = IsNode t (given t (pushed es tick s)) (rested_of t (pushed es tick s)) (after t (world_of t es) s) n x

  was_is : IsNode t (given t es) (rested_of t es) w m acts.was
  was_is = are m acts.was acts.there

  pub one-nodes : Each (λ n x. IsNode t (given t (pushed es tick s)) (rested_of t (pushed es tick s)) (after t (world_of t es) s) n x) new.nodes
  one-nodes =
      subst (Each IsThen) (sym (ap (λ (c : Carried). c.nodes) acts.new_is))
      (each-set IsThen old.nodes m acts.was acts.now acts.there
      (node-then t lawful es ps journal tick s turn moves attached m below e happens here acts.was acts.now was_is acts.becomes)
      (λ n x apart is.
      let under : n < length t.loopbacks = subst (λ k. n < k) each (slice_get_within old.nodes n x is) in
      node-still t lawful es ps journal tick s turn moves attached n under (others n apart) x (are n x is)))

  pub one-each : length new.nodes ≡ length t.loopbacks
  one-each = ap (λ (c : Carried). length c.nodes) acts.new_is ∙ length-set old.nodes m acts.now ∙ each

  says-is : node_says t w s m ++ [] ≡ said (wiring_of t) (node_at t w m) e
  says-is = append-nil (node_says t w s m) ∙ ap (said_any (wiring_of t) (node_at t w m)) happens

  sessions-are : (after t w s).sessions ≡ with_said (ldp_counted t w.sessions s) (said (wiring_of t) (node_at t w m) e)
  sessions-are =
      sessions-then t lawful es ps journal tick s turn moves ∙ ap (λ ms. with_said (ldp_counted t w.sessions s) (flat_map (node_says t w s) ms)) acts_are
      ∙ ap (with_said (ldp_counted t w.sessions s)) says-is

  pub one-flies : (k : ℕ) (dir : Dir) → k < length t.links →
      (ldp_counted t (world_of t es).sessions s).heard k (receiver (wiring_of t) k dir) ≤ length
      ((ldp_counted t (world_of t es).sessions s).said k (sender (wiring_of t) k dir))
      → FliesAs (wiring_of t) (labels_at t (pushed es tick s)) k dir ((ldp_counted t (world_of t es).sessions s).heard k (receiver (wiring_of t) k dir))
      ((ldp_counted t (world_of t es).sessions s).said k (sender (wiring_of t) k dir)) old.messages
      → FliesAs (wiring_of t) (labels_at t (pushed es tick s)) k dir ((after t (world_of t es) s).sessions.heard k (receiver (wiring_of t) k dir))
      ((after t (world_of t es) s).sessions.said k (sender (wiring_of t) k dir)) new.messages
  one-flies k dir h within flies =
      subst (λ (x : Sessions). FliesAs (wiring_of t) own_then k dir (x.heard k (receiver (wiring_of t) k dir)) (x.said k (sender (wiring_of t) k dir))
      new.messages)
      (sym sessions-are)
      (acts-flies t lawful es ps journal tick s turn moves number m next below e happens old new acts was_is here k dir
      ((ldp_counted t w.sessions s).heard k (receiver (wiring_of t) k dir))
      ((ldp_counted t w.sessions s).said k (sender (wiring_of t) k dir)) h within
      (λ sends. ap (λ n. length ((ldp_counted t w.sessions s).said k n)) sends) flies)

  own : AllOwn (wiring_of t) (changed (wiring_of t) (node_at t w m) e) m (said (wiring_of t) (node_at t w m) e)
  own = own-event (wiring_of t) (node_at t w m) e here

  pub one-puts : Puts t tick number (map message_of (flat_map (node_says t (world_of t es) s) (acting t s))) old.messages new.messages next
  one-puts =
      subst (λ xs. Puts t tick number xs old.messages new.messages next)
      (ap (map message_of) (sym says-is) ∙ ap (λ ms. map message_of (flat_map (node_says t w s) ms)) (sym acts_are))
      (puts-act t tick number m next _ old new acts (own_then m) _ _ (said (wiring_of t) (node_at t w m) e)
      (pdus-are t lawful es ps journal tick s turn moves m below e happens acts.was was_is
      ∙ ap (pdus (wiring_of t) (own_then m) _ _) (says t lawful es ps journal tick s turn moves m below e happens))
      (each-own (wiring_of t) (changed (wiring_of t) (node_at t w m) e) m (said (wiring_of t) (node_at t w m) e) own))

if_same : (a b : ℕ) (e : Event) → a ≡ b → (if a == b then Some e else None) ≡ Some e
if_same a b e q = ap (λ x. if x then Some e else None) (ap (λ y. y == b) q ∙ same_test b)

if_other : (a b : ℕ) (e : Event) → a ≢ b → (if a == b then Some e else None) ≡ None
if_other a b e d = ap (λ x. if x then Some e else None) (other_test a b d)

-- a session in which a message is received goes on
pub heard-open : (w : Wiring) (n : Node) (l : ℕ) (message : Message) (label : ℕ) → session_at n l ≢ None →
    session_at (changed w n (Hears l message label)) l ≢ None
heard-open w n l message label was_open none =
    goes_on (session_at n l) was_open (sym (get_or-set_same n.sessions l (option_map (session_after message label) (session_at n l)) None there) ∙ none)
  where
    there : l < length n.sessions
    there = elim (leb_tells (length n.sessions) l) [ inl p ↦ absurd (was_open (get_or_past n.sessions l None p.1)) | inr p ↦ p.1 ]

    goes_on : (o : Option Session) → o ≢ None → option_map (session_after message label) o ≡ None → ⊥
    goes_on None h q = h refl
    goes_on (Some x) h q = cc

-- 1. A node learns

some_there : {A : Type 0} (xs : List A) → 0 < length xs → (x : A) × (slice_get xs 0 ≡ Some x)
some_there [] h = absurd (let none : 0 < 0 → ⊥ = (λ p. omega (arith, p)) in none h)
some_there (x ∷ xs) h = (x, refl)

length-first : {A : Type 0} (xs : List A) → 0 < length xs → length (without_at 0 xs) + 1 ≡ length xs
length-first [] h = absurd (let none : 0 < 0 → ⊥ = (λ p. omega (arith, p)) in none h)
length-first (x ∷ xs) h = omega arith

module _ (t : Network) (lawful : IsLawful t) (es : List JournalEntry) (ps : List (List ℕ)) (journal : IsLawfulJournal t es ps) (tick : ℕ) (old : Carried)
    (stands : IsTransport t es old) where
  abbrev wd : World
  wd = world_of t es

  are : Each (λ n x. IsNode t (given t es) (rested_of t es) wd n x) old.nodes
  are n x is = stands.nodes n x is

  module _ (node : NodeNo) (l : LinkNo) (turn : IsTurn t wd (step.Learn node l)) where
    below : node.0 < length t.loopbacks
    below = less_tells node.0 (length t.loopbacks) (and_left (nat_lt node.0 (length t.loopbacks)) (nat_lt l.0 (length t.links)) turn.fitting)

    there : l.0 < length t.links
    there = less_tells l.0 (length t.links) (and_right (nat_lt node.0 (length t.loopbacks)) (nat_lt l.0 (length t.links)) turn.fitting)

    happens : event_of t wd (step.Learn node l) node.0 ≡ Some (Learns l.0)
    happens = if_same node.0 node.0 (Learns l.0) refl

    others : (n : ℕ) → n ≢ node.0 → event_of t wd (step.Learn node l) n ≡ None
    others n d = if_other node.0 n (Learns l.0) (λ e. d (sym e))

    more : 0 < length (on_channel (l.0 * length t.loopbacks + node.0) old.notices)
    more = let has = stands.notices l.0 node.0 there below in
        let some = not_at_most_tells (wd.views.changes l.0) (wd.views.learned node.0 l.0) turn.there in omega (arith, has, some)

    pub first-notice : (x : Item Notice) × (slice_get (on_channel (l.0 * length t.loopbacks + node.0) old.notices) 0 ≡ Some x)
    first-notice = some_there (on_channel (l.0 * length t.loopbacks + node.0) old.notices) more

    elsewhere : (k n : ℕ) → k * length t.loopbacks + n ≢ l.0 * length t.loopbacks + node.0 →
        (after t wd (step.Learn node l)).views.learned n k ≡ wd.views.learned n k
    elsewhere k n d = elim (eqb_tells n node.0) [
      | inr q ↦ pair_off wd.views.learned node.0 l.0 (wd.views.learned node.0 l.0 + 1) n k (inl q.1)
      | inl q ↦ elim (eqb_tells k l.0) [
        | inr r ↦ pair_off wd.views.learned node.0 l.0 (wd.views.learned node.0 l.0 + 1) n k (inr r.1)
        | inl r ↦ absurd (d (ap (λ j. j * length t.loopbacks + n) r.1 ∙ ap (λ i. l.0 * length t.loopbacks + i) q.1))
      ]
    ]

    count : (channels : ℕ) → IsFlight channels old.notices → (k n : ℕ) → k < length t.links → n < length t.loopbacks
        → (after t wd (step.Learn node l)).views.learned n k + length
        (on_channel (k * length t.loopbacks + n) (without (slice_get (on_channel (l.0 * length t.loopbacks + node.0) old.notices) 0) old.notices)) ≡
        wd.views.changes k
    count channels flight k n h under =
        ap (λ o. (after t wd (step.Learn node l)).views.learned n k + length (on_channel (k * length t.loopbacks + n) (without o old.notices))) first-notice.1
        ∙ elim (eqb_tells (k * length t.loopbacks + n) (l.0 * length t.loopbacks + node.0)) [
          | inl p ↦ here p.1 (pair_one (length t.loopbacks) k l.0 n node.0 under below p.1)
          | inr p ↦ ap (λ xs. (after t wd (step.Learn node l)).views.learned n k + length xs)
              (left_off (l.0 * length t.loopbacks + node.0) (k * length t.loopbacks + n) old.notices 0 first-notice.0 flight.ascending first-notice.1 p.0)
              ∙ ap (λ i. i + length (on_channel (k * length t.loopbacks + n) old.notices)) (elsewhere k n p.1) ∙ stands.notices k n h under
        ]
      where
        here : k * length t.loopbacks + n ≡ l.0 * length t.loopbacks + node.0 → (k ≡ l.0) × (n ≡ node.0)
            → (after t wd (step.Learn node l)).views.learned n k + length
            (on_channel (k * length t.loopbacks + n) (without (Some first-notice.0) old.notices)) ≡ wd.views.changes k
        here p same =
            let left : length (on_channel (k * length t.loopbacks + n) (without (Some first-notice.0) old.notices)) + 1 ≡ length
            (on_channel (l.0 * length t.loopbacks + node.0) old.notices) =
            ap (λ d. length (on_channel d (without (Some first-notice.0) old.notices)) + 1) p
            ∙ ap (λ xs. length xs + 1) (left_on (l.0 * length t.loopbacks + node.0) old.notices 0 first-notice.0 flight.ascending first-notice.1)
            ∙ length-first (on_channel (l.0 * length t.loopbacks + node.0) old.notices) more in
            let learned : (after t wd (step.Learn node l)).views.learned n k ≡ wd.views.learned node.0 l.0 + 1 =
            ap (λ j. (after t wd (step.Learn node l)).views.learned n j) same.0 ∙ ap (λ i. (after t wd (step.Learn node l)).views.learned i l.0) same.1
            ∙ pair_here wd.views.learned node.0 l.0 (wd.views.learned node.0 l.0 + 1) in
            let has = stands.notices l.0 node.0 there below in
            let changed_is : wd.views.changes k ≡ wd.views.changes l.0 = ap wd.views.changes same.0 in
            omega (arith, left, learned, has, changed_is)

  pub goes-learn : (node : NodeNo) (l : LinkNo) (number : ℕ) (new : Carried) (next channels : ℕ) → IsFlight channels old.notices →
      IsTurn t wd (step.Learn node l)
      → LearnsNext t tick number node.0 l.0 old new next →
      StandsFor t (given t (pushed es tick (step.Learn node l))) (rested_of t (pushed es tick (step.Learn node l)))
      (after t (world_of t es) (step.Learn node l)) new
  goes-learn node l number new next channels flight turn acts =
      let s : Step = step.Learn node l in
      let base : Carried = noticed t node.0 l.0 old in
      let rest : Rest base new = act-rest t tick number node.0 (Learns l.0) base new next acts in
      record {
        each = one-each t lawful es ps journal tick (step.Learn node l) turn refl node.0 (below node l turn) refl (Learns l.0) (happens node l turn)
            (others node l turn) tt (λ site. refl) number next base new acts stands.each are;
        nodes = one-nodes t lawful es ps journal tick (step.Learn node l) turn refl node.0 (below node l turn) refl (Learns l.0) (happens node l turn)
            (others node l turn) tt (λ site. refl) number next base new acts stands.each are;
        changes = rest.changes ∙ stands.changes;
        up = stands.up;
        switches = rest.switches ∙ stands.switches;
        each_site = ap length rest.labels ∙ stands.each_site;
        sites = λ site attachment h at. ap (λ xs. slice_index xs site) rest.labels ∙ stands.sites site attachment h at
            ∙ sym (site-stays t es tick (step.Learn node l) (home_of t site) site attachment refl);
        notices =
            λ k n h under. ap (λ xs. (after t wd (step.Learn node l)).views.learned n k + length (on_channel (k * length t.loopbacks + n) xs)) rest.notices
            ∙ count node l turn channels flight k n h under;
        messages =
            λ k dir h. by-labels t lawful es ps journal tick old stands (step.Learn node l) new k dir
            (one-flies t lawful es ps journal tick (step.Learn node l) turn refl node.0 (below node l turn) refl (Learns l.0) (happens node l turn)
            (others node l turn) tt (λ site. refl) number next base new acts stands.each are k dir h
            (heard-within t wd (step.Learn node l) lawful turn k dir h)
            (flies-before t lawful es ps journal tick (step.Learn node l) turn refl old stands k dir h));
      }

  pub puts-learn : (node : NodeNo) (l : LinkNo) (number : ℕ) (new : Carried) (next : ℕ) → IsTurn t wd (step.Learn node l) →
      LearnsNext t tick number node.0 l.0 old new next
      → Puts t tick number (map message_of (flat_map (node_says t wd (step.Learn node l)) (acting t (step.Learn node l)))) old.messages new.messages next
  puts-learn node l number new next turn acts =
      one-puts t lawful es ps journal tick (step.Learn node l) turn refl node.0 (below node l turn) refl (Learns l.0) (happens node l turn)
      (others node l turn) tt
      (λ site. refl) number next (noticed t node.0 l.0 old) new acts stands.each are

  -- 2. A node receives

  bytes-first : (xs : List (Item (List ℕ))) (b : List ℕ) (bs : List (List ℕ)) → map (λ item. item.item) xs ≡ b ∷ bs →
      map (λ item. item.item) (without_at 0 xs) ≡ bs
  bytes-first [] b bs e = absurd (let no : [] ≡ b ∷ bs → ⊥ = (λ q. cc) in no e)
  bytes-first (x ∷ xs) b bs e = cc

  module _ (l : LinkNo) (dir : Dir) (turn : IsTurn t wd (step.HearLdp l dir)) where
    abbrev r : ℕ
    r = receiver (wiring_of t) l.0 dir

    abbrev far : ℕ
    far = sender (wiring_of t) l.0 dir

    abbrev e : Event
    e = hears_next t wd l.0 r

    link_there : l.0 < length t.links
    link_there = less_tells l.0 (length t.links) turn.fitting

    end_below : r < length t.loopbacks
    end_below = receives dir
      where
        receives : (d : Dir) → receiver (wiring_of t) l.0 d < length t.loopbacks
        receives Forth = (lawful.joins_nodes l.0 link_there).1
        receives Back = (lawful.joins_nodes l.0 link_there).0

    hears_it : event_of t wd (step.HearLdp l dir) r ≡ Some e
    hears_it = if_same r r e refl

    no_other : (n : ℕ) → n ≢ r → event_of t wd (step.HearLdp l dir) n ≡ None
    no_other n d = if_other r n (hears_next t wd l.0 n) (λ q. d (sym q))

    live : lives wd.config l.0 ≡ true
    live = was_on (lives wd.config l.0) (or_off (not (lives wd.config l.0)) (nat_le (length (wd.sessions.said l.0 far)) (wd.sessions.heard l.0 r)) turn.there).0
      where
        was_on : (b : Bool) → not b ≡ false → b ≡ true
        was_on true q = refl
        was_on false q = cc

    more_said : wd.sessions.heard l.0 r < length (wd.sessions.said l.0 far)
    more_said =
        not_at_most_tells (length (wd.sessions.said l.0 far)) (wd.sessions.heard l.0 r)
        (or_off (not (lives wd.config l.0)) (nat_le (length (wd.sessions.said l.0 far)) (wd.sessions.heard l.0 r)) turn.there).1

    at_end : is_end (wiring_of t) l.0 r ≡ true
    at_end = (dir_ends (wiring_of t) l.0 dir (lawful.ends_differ l.0 link_there)).0

    here_heard : IsHere (wiring_of t) (node_at t wd r) e
    here_heard = (
      link_there,
      at_end,
      heard-open (wiring_of t) (node_at t wd r) l.0 _ _
          (open-at t lawful (given t es) (rested_of t es) wd old stands r l.0 link_there live at_end),
    )

    abbrev heard_then : ℕ → ℕ → ℕ
    heard_then = (ldp_counted t wd.sessions (step.HearLdp l dir)).heard

    -- a direction is this one, or another
    apart : (k : ℕ) (d : Dir) → channel k d ≢ channel l.0 dir → heard_then k (receiver (wiring_of t) k d) ≡ wd.sessions.heard k (receiver (wiring_of t) k d)
    apart k d off = elim (eqb_tells k l.0) [
      | inr q ↦ pair_off wd.sessions.heard l.0 r (wd.sessions.heard l.0 r + 1) k (receiver (wiring_of t) k d) (inl q.1)
      | inl q ↦ pair_off wd.sessions.heard l.0 r (wd.sessions.heard l.0 r + 1) k (receiver (wiring_of t) k d)
          (inr (λ same. ends d dir (λ both. off (ap (λ j. channel j d) q.1 ∙ ap (channel l.0) both)) (ap (λ j. receiver (wiring_of t) j d) (sym q.1)
          ∙ same)))
    ]
      where
        ends : (d c : Dir) → d ≢ c → receiver (wiring_of t) l.0 d ≢ receiver (wiring_of t) l.0 c
        ends Forth Forth n q = n refl
        ends Back Back n q = n refl
        ends Forth Back n q = lawful.ends_differ l.0 link_there (sym q)
        ends Back Forth n q = lawful.ends_differ l.0 link_there q

    counts : (k : ℕ) (d : Dir) → k < length t.links → heard_then k (receiver (wiring_of t) k d) ≤ length (wd.sessions.said k (sender (wiring_of t) k d))
    counts k d h = elim (eqb_tells (channel k d) (channel l.0 dir)) [
      | inl p ↦ (let same = one_channel k l.0 d dir p.1 in
          subst (λ j. heard_then j (receiver (wiring_of t) j d) ≤ length (wd.sessions.said j (sender (wiring_of t) j d))) (sym same.0)
          (subst (λ c. heard_then l.0 (receiver (wiring_of t) l.0 c) ≤ length (wd.sessions.said l.0 (sender (wiring_of t) l.0 c))) (sym same.1)
          (let one : heard_then l.0 r ≡ wd.sessions.heard l.0 r + 1 = pair_here wd.sessions.heard l.0 r (wd.sessions.heard l.0 r + 1) in
          omega (arith, one, more_said))))
      | inr p ↦ subst (λ n. n ≤ length (wd.sessions.said k (sender (wiring_of t) k d))) (sym (apart k d p.1))
          (heard-within t wd (step.HearLdp l dir) lawful turn k d h)
    ]

    -- the labels of after
    abbrev own_after : Labelling
    own_after = labels_at t (pushed es tick (step.HearLdp l dir))

    before : (k : ℕ) (d : Dir) → k < length t.links →
        FliesAs (wiring_of t) own_after k d (wd.sessions.heard k (receiver (wiring_of t) k d)) (wd.sessions.said k (sender (wiring_of t) k d)) old.messages
    before k d h = flies-before t lawful es ps journal tick (step.HearLdp l dir) turn refl old stands k d h

    abbrev spelling : List (List ℕ)
    spelling = spelled (wiring_of t) own_after l.0 far 1 (wd.sessions.said l.0 far)

    -- what flies in this direction, with the first
    flying : map (λ item. item.item) (on_channel (channel l.0 dir) old.messages)
        ≡ (pdu_in_network (wiring_of t) l.0 far (own_after far) (own_after (across (wiring_of t) l.0 far)) (1 + wd.sessions.heard l.0 r)
        (slice_index_or (wd.sessions.said l.0 far) (wd.sessions.heard l.0 r) Address)).bytes ∷ drop (wd.sessions.heard l.0 r + 1) spelling
    flying = before l.0 dir link_there ∙ next-spelled (wiring_of t) own_after l.0 far 1 (wd.sessions.heard l.0 r) (wd.sessions.said l.0 far) more_said

    first_pdu : (x : Item (List ℕ)) × (slice_get (on_channel (channel l.0 dir) old.messages) 0 ≡ Some x)
    first_pdu = let found = first-item (on_channel (channel l.0 dir) old.messages) _ _ flying in (found.0, found.1)

    left : (channels : ℕ) → IsFlight channels old.messages →
        (k : ℕ) (d : Dir) → k < length t.links →
        FliesAs (wiring_of t) own_after k d (heard_then k (receiver (wiring_of t) k d)) (wd.sessions.said k (sender (wiring_of t) k d))
        (taken l.0 dir old).messages
    left channels flight k d h =
        subst (λ o. FliesAs (wiring_of t) own_after k d (heard_then k (receiver (wiring_of t) k d)) (wd.sessions.said k (sender (wiring_of t) k d))
        (without o old.messages)) (sym first_pdu.1)
        (elim (eqb_tells (channel k d) (channel l.0 dir)) [
          | inl p ↦ (let same = one_channel k l.0 d dir p.1 in
              subst (λ j. FliesAs (wiring_of t) own_after j d (heard_then j (receiver (wiring_of t) j d)) (wd.sessions.said j (sender (wiring_of t) j d))
              (without (Some first_pdu.0) old.messages)) (sym same.0)
              (subst (λ c. FliesAs (wiring_of t) own_after l.0 c (heard_then l.0 (receiver (wiring_of t) l.0 c))
              (wd.sessions.said l.0 (sender (wiring_of t) l.0 c))
              (without (Some first_pdu.0) old.messages)) (sym same.1)
              (ap (map (λ (item : Item (List ℕ)). item.item)) (left_on (channel l.0 dir) old.messages 0 first_pdu.0 flight.ascending first_pdu.1)
              ∙ bytes-first (on_channel (channel l.0 dir) old.messages) _ _ flying
              ∙ ap (λ n. drop n spelling) (sym (pair_here wd.sessions.heard l.0 r (wd.sessions.heard l.0 r + 1))))))
          | inr p ↦ ap (map (λ (item : Item (List ℕ)). item.item))
              (left_off (channel l.0 dir) (channel k d) old.messages 0 first_pdu.0 flight.ascending first_pdu.1 p.0)
              ∙ before k d h
              ∙ ap (λ n. drop n (spelled (wiring_of t) own_after k (sender (wiring_of t) k d) 1 (wd.sessions.said k (sender (wiring_of t) k d))))
              (sym (apart k d p.1))
        ])

  pub goes-hear : (l : LinkNo) (dir : Dir) (number : ℕ) (new : Carried) (next channels : ℕ) → IsFlight channels old.messages →
      IsTurn t wd (step.HearLdp l dir)
      → HearsNext t tick number l.0 dir (event_with (wiring_of t) (labels_at t (pushed es tick (step.HearLdp l dir))) (receiver (wiring_of t) l.0 dir)
      (hears_next t wd l.0 (receiver (wiring_of t) l.0 dir))) old new next →
      StandsFor t (given t (pushed es tick (step.HearLdp l dir))) (rested_of t (pushed es tick (step.HearLdp l dir)))
      (after t (world_of t es) (step.HearLdp l dir)) new
  goes-hear l dir number new next channels flight turn acts =
      let base : Carried = taken l.0 dir old in
      let event : Event = hears_next t wd l.0 (receiver (wiring_of t) l.0 dir) in
      let rest : Rest base new = act-rest t tick number (receiver (wiring_of t) l.0 dir) _ base new next acts in
      record {
        each = one-each t lawful es ps journal tick (step.HearLdp l dir) turn refl (receiver (wiring_of t) l.0 dir) (end_below l dir turn) refl event
            (hears_it l dir turn) (no_other l dir turn) (here_heard l dir turn) (λ site. refl) number next base new acts stands.each are;
        nodes = one-nodes t lawful es ps journal tick (step.HearLdp l dir) turn refl (receiver (wiring_of t) l.0 dir) (end_below l dir turn) refl event
            (hears_it l dir turn) (no_other l dir turn) (here_heard l dir turn) (λ site. refl) number next base new acts stands.each are;
        changes = rest.changes ∙ stands.changes;
        up = stands.up;
        switches = rest.switches ∙ stands.switches;
        each_site = ap length rest.labels ∙ stands.each_site;
        sites = λ site attachment h at. ap (λ xs. slice_index xs site) rest.labels ∙ stands.sites site attachment h at
            ∙ sym (site-stays t es tick (step.HearLdp l dir) (home_of t site) site attachment refl);
        notices = λ k n h under. ap (λ xs. wd.views.learned n k + length (on_channel (k * length t.loopbacks + n) xs)) rest.notices
            ∙ stands.notices k n h under;
        messages =
            λ k d h. by-labels t lawful es ps journal tick old stands (step.HearLdp l dir) new k d
            (one-flies t lawful es ps journal tick (step.HearLdp l dir) turn refl (receiver (wiring_of t) l.0 dir) (end_below l dir turn) refl event
            (hears_it l dir turn) (no_other l dir turn) (here_heard l dir turn) (λ site. refl) number next base new acts stands.each are k d h
            (counts l dir turn k d h) (left l dir turn channels flight k d h));
      }

  pub puts-hear : (l : LinkNo) (dir : Dir) (number : ℕ) (new : Carried) (next : ℕ) → IsTurn t wd (step.HearLdp l dir)
      → HearsNext t tick number l.0 dir (event_with (wiring_of t) (labels_at t (pushed es tick (step.HearLdp l dir))) (receiver (wiring_of t) l.0 dir)
      (hears_next t wd l.0 (receiver (wiring_of t) l.0 dir))) old new next
      → Puts t tick number (map message_of (flat_map (node_says t wd (step.HearLdp l dir)) (acting t (step.HearLdp l dir))))
      (taken l.0 dir old).messages new.messages next
  puts-hear l dir number new next turn acts =
      one-puts t lawful es ps journal tick (step.HearLdp l dir) turn refl (receiver (wiring_of t) l.0 dir) (end_below l dir turn) refl
      (hears_next t wd l.0 (receiver (wiring_of t) l.0 dir)) (hears_it l dir turn) (no_other l dir turn) (here_heard l dir turn)
      (λ site. refl) number next
      (taken l.0 dir old) new acts stands.each are
