-- Where a message has its turn to be received, the end of its direction receives it as it was sent.
use Rattle.std.proofs.Common.{ℕ, zero, suc, ◌≡◌, ◌+◌, ◌<◌, ◌^◌, inl, Bool, true, false, not, List, [], ◌∷◌, length, map, drop, refl, arith, sym, ◌∙◌, ap, subst}
use Rattle.std.proofs.Common.{None, Some}
use Rattle.std.specs.Prelude.{◌&&◌, nat_le, slice_index_or, option_map, Ok, if◌then◌else◌}
use Rattle.std.proofs.lemmas.List.Elements.{Contains-get_or}
use Rattle.mn_base.proofs.Bools.{or_off, not_at_most_tells, less_tells}
use Rattle.mn_base.proofs.Members.{In}
use Rattle.mn_wiring.specs.Wiring.{Wiring, nodes_of, is_end, across, sender, receiver}
use Rattle.mn_wiring.specs.declared.links.Dir.{Dir}
use Rattle.mn_wiring.specs.declared.links.Dir.TheVariants.{Forth, Back}
use Rattle.mn_base.specs.declared.numbers.LinkNo.{LinkNo}
use Rattle.mn_flight.specs.declared.Item.{Item}
use Rattle.mn_flight.specs.Flying.{on_channel}
use Rattle.mn_topo.specs.Network.{Network, wiring_of}
use Rattle.mn_topo.specs.Lawful.{IsLawful}
use Rattle.mn_topo.specs.declared.steps.Step.TheVariants as step
use Rattle.mn_node.specs.Ldp.{Message, Address, has_ldp_row}
use Rattle.mn_node.specs.Node.{Session, Node, session_at}
use Rattle.mn_node.specs.Machine.{Event, Hears}
use Rattle.mn_ldp_session.specs.Spelling.{pdu_in_network, HasItsLabel}
use Rattle.mn_labels.specs.Labels.{Labels, greatest}
use Rattle.mn_topo.specs.declared.steps.JournalEntry.{JournalEntry}
use Rattle.mn_ledger.specs.Ledger.{world_of}
use Rattle.mn_ledger.specs.Lawful.{IsLawfulJournal}
use Rattle.mn_reuse_laws.specs.Resting.{rested_of}
use Rattle.mn_reuse_laws.specs.Relabelled.{Labelling, session_with, event_with, label_with, labels_at}
use Rattle.mn_timetable_laws.specs.Steps.{pushed}
use Rattle.mn_ledger.specs.Packets.{channel}
use Rattle.mn_ledger.specs.World.{World}
use Rattle.mn_ledger.specs.Transport.{lives, ldp_state_of, heard_by}
use Rattle.mn_ledger.proofs.Turning.{dir_ends, across-end}
use Rattle.mn_ledger.proofs.InTurn.{rows}
use Rattle.mn_ledger_laws.specs.Named.{NamesANode}
use Rattle.mn_slice_laws.specs.Slice.{label_heard, node_at, hears_next}
use Rattle.mn_slice_laws.proofs.Changing.{session_at-is}
use Rattle.mn_frame_laws.specs.Given.{given}
use Rattle.mn_lsr.specs.Hearing.{after_message, after_bytes}
use Rattle.mn_lsr.specs.Turns.{Kept, kept_in, kept_then}
use Rattle.mn_lsr.specs.Standing.{Standing}
use Rattle.mn_transport_laws.specs.Carried.{Carried}
use Rattle.mn_transport_laws.specs.Sending.{spelled, pdus_in}
use Rattle.mn_transport_laws.specs.Acting.{MayAct, MayHear}
use Rattle.mn_transport_laws.specs.Doing.{CanHear}
use Rattle.mn_transport_laws.specs.Stands.{own_of, IsNode, IsTransport}
use Rattle.mn_transport_laws.specs.Steps.{IsTurn}
use Rattle.mn_lsr.proofs.Inside.{heard as one_change}
use Rattle.mn_transport_laws.proofs.Wired.{spelled as spelled_apart}
use Rattle.mn_transport_laws.proofs.Heard.{next-spelled, first-item, speaks}
use Rattle.mn_transport_laws.proofs.Ready.{there, open-at, may-act}
use Rattle.mn_transport_laws.proofs.Goings.{session-with}
use Rattle.mn_transport_laws.proofs.Flown.{flies-before}
use Rattle.mn_transport_laws.proofs.Relabelled.{stays-in-flight, fits-in-flight}

in_session : (b c : Bool) → b ≡ true → c ≡ true → (s : Session) → (if b && c then Some s else None) ≡ Some s
in_session true true e f s = refl
in_session true false e f s = cc
in_session false c e f s = cc

-- the message that is received next is the first of those that weren't
first_left : (ms : List Message) (n : ℕ) → n < length ms → In (drop n ms) (slice_index_or ms n Address)
first_left [] n h = absurd (let none : n < 0 → ⊥ = (λ p. omega (arith, p)) in none h)
first_left (m ∷ ms) zero h = inl refl
first_left (m ∷ ms) (suc n) h = first_left ms n (omega (arith, h))

module _ (t : Network) (lawful : IsLawful t) (es : List JournalEntry) (ps : List (List ℕ)) (journal : IsLawfulJournal t es ps) (tick : ℕ) (carried : Carried)
    (stands : IsTransport t es carried) (l : LinkNo) (dir : Dir) (turn : IsTurn t (world_of t es) (step.HearLdp l dir)) where
  abbrev w : World
  w = world_of t es

  -- the labels of after
  abbrev own : Labelling
  own = labels_at t (pushed es tick (step.HearLdp l dir))

  -- what is received, with the label that its FEC has then
  abbrev pub event : Event
  event = event_with (wiring_of t) (labels_at t (pushed es tick (step.HearLdp l dir))) (receiver (wiring_of t) l.0 dir)
      (hears_next t (world_of t es) l.0 (receiver (wiring_of t) l.0 dir))

  abbrev r : ℕ
  r = receiver (wiring_of t) l.0 dir

  abbrev s : ℕ
  s = sender (wiring_of t) l.0 dir

  below : l.0 < length t.links
  below = less_tells l.0 (length t.links) turn.fitting

  receives : (d : Dir) → receiver (wiring_of t) l.0 d < length t.loopbacks
  receives Forth = (lawful.joins_nodes l.0 below).1
  receives Back = (lawful.joins_nodes l.0 below).0

  sends : (d : Dir) → sender (wiring_of t) l.0 d < length t.loopbacks
  sends Forth = (lawful.joins_nodes l.0 below).0
  sends Back = (lawful.joins_nodes l.0 below).1

  was_on : (b : Bool) → not b ≡ false → b ≡ true
  was_on true q = refl
  was_on false q = cc

  alive : lives w.config l.0 ≡ true
  alive = was_on (lives w.config l.0)
      (or_off (not (lives w.config l.0))
      (nat_le (length (w.sessions.said l.0 (sender (wiring_of t) l.0 dir))) (w.sessions.heard l.0 (receiver (wiring_of t) l.0 dir))) turn.there).0

  more : w.sessions.heard l.0 (receiver (wiring_of t) l.0 dir) < length (w.sessions.said l.0 (sender (wiring_of t) l.0 dir))
  more = not_at_most_tells (length (w.sessions.said l.0 (sender (wiring_of t) l.0 dir))) (w.sessions.heard l.0 (receiver (wiring_of t) l.0 dir))
      (or_off (not (lives w.config l.0))
      (nat_le (length (w.sessions.said l.0 (sender (wiring_of t) l.0 dir))) (w.sessions.heard l.0 (receiver (wiring_of t) l.0 dir))) turn.there).1

  at_end : is_end (wiring_of t) l.0 (receiver (wiring_of t) l.0 dir) ≡ true
  at_end = (dir_ends (wiring_of t) l.0 dir (lawful.ends_differ l.0 below)).0

  far : across (wiring_of t) l.0 (receiver (wiring_of t) l.0 dir) ≡ sender (wiring_of t) l.0 dir
  far = (dir_ends (wiring_of t) l.0 dir (lawful.ends_differ l.0 below)).1

  back : across (wiring_of t) l.0 (sender (wiring_of t) l.0 dir) ≡ receiver (wiring_of t) l.0 dir
  back = ap (across (wiring_of t) l.0) (sym far) ∙ (across-end (wiring_of t) l.0 (receiver (wiring_of t) l.0 dir) (lawful.ends_differ l.0 below) at_end).1

  abbrev message : Message
  message = slice_index_or (w.sessions.said l.0 (sender (wiring_of t) l.0 dir)) (w.sessions.heard l.0 (receiver (wiring_of t) l.0 dir)) Address

  -- in the words of the slice
  next-is : event ≡ Hears l.0 message (label_with (own (sender (wiring_of t) l.0 dir)) message)
  next-is = ap (λ n. let m : Message = slice_index_or (w.sessions.said l.0 n) (w.sessions.heard l.0 (receiver (wiring_of t) l.0 dir)) Address in
      Hears l.0 m (label_with (own n) m)) far

  named : NamesANode t message
  named = turn.named l.0 (sender (wiring_of t) l.0 dir) message
      (Contains-get_or (w.sessions.said l.0 (sender (wiring_of t) l.0 dir)) (w.sessions.heard l.0 (receiver (wiring_of t) l.0 dir)) Address more)

  row : has_ldp_row (ldp_state_of t w.sessions l.0 (receiver (wiring_of t) l.0 dir)) message ≡ true
  row = subst
      (λ n. has_ldp_row (ldp_state_of t w.sessions l.0 (receiver (wiring_of t) l.0 dir))
      (slice_index_or (w.sessions.said l.0 n) (w.sessions.heard l.0 (receiver (wiring_of t) l.0 dir)) Address) ≡ true) far
      ((rows t w lawful turn.turn).ldp l.0 (receiver (wiring_of t) l.0 dir) below at_end alive
      (subst (λ n. w.sessions.heard l.0 (receiver (wiring_of t) l.0 dir) < length (w.sessions.said l.0 n)) (sym far) more))

  abbrev session : Session
  session = record {
    state = ldp_state_of t w.sessions l.0 (receiver (wiring_of t) l.0 dir);
    said = length (w.sessions.said l.0 (receiver (wiring_of t) l.0 dir));
    labels = map
        (label_heard (across (wiring_of t) l.0 (receiver (wiring_of t) l.0 dir)) (heard_by (wiring_of t) w.sessions l.0 (receiver (wiring_of t) l.0 dir)))
        (nodes_of (wiring_of t));
  }

  session-is : session_at (node_at t w (receiver (wiring_of t) l.0 dir)) l.0 ≡ Some session
  session-is = session_at-is t w.config w.views w.sessions (receiver (wiring_of t) l.0 dir) l.0 below
      ∙ in_session (lives w.config l.0) (is_end (wiring_of t) l.0 (receiver (wiring_of t) l.0 dir)) alive at_end session

  -- as the node keeps it
  abbrev kept_session : Session
  kept_session = session_with (own_of (given t es) (across (wiring_of t) l.0 (receiver (wiring_of t) l.0 dir))) session

  abbrev bytes : List ℕ
  bytes = (pdu_in_network (wiring_of t) l.0 (sender (wiring_of t) l.0 dir) (own (sender (wiring_of t) l.0 dir))
      (own (across (wiring_of t) l.0 (sender (wiring_of t) l.0 dir)))
      (1 + w.sessions.heard l.0 (receiver (wiring_of t) l.0 dir)) message).bytes

  flying : map (λ item. item.item) (on_channel (channel l.0 dir) carried.messages)
      ≡ bytes ∷ drop (w.sessions.heard l.0 (receiver (wiring_of t) l.0 dir) + 1)
      (spelled (wiring_of t) own l.0 (sender (wiring_of t) l.0 dir) 1 (w.sessions.said l.0 (sender (wiring_of t) l.0 dir)))
  flying = flies-before t lawful es ps journal tick (step.HearLdp l dir) turn refl carried stands l.0 dir below
      ∙ next-spelled (wiring_of t) own l.0 (sender (wiring_of t) l.0 dir) 1 (w.sessions.heard l.0 (receiver (wiring_of t) l.0 dir))
      (w.sessions.said l.0 (sender (wiring_of t) l.0 dir)) more

  in_range_of : (n : ℕ) → n < length t.loopbacks → greatest (given t es n).given < 2 ^ 20
  in_range_of n under =
      let found = there carried.nodes n (subst (λ k. n < k) (sym stands.each) under) in
      let is = stands.nodes n found.0 found.1 in
      subst (λ (labels : Labels). greatest labels.given < 2 ^ 20) is.labels is.in_range

  its-label : HasItsLabel (own (sender (wiring_of t) l.0 dir)) (own (receiver (wiring_of t) l.0 dir)) message
  its-label =
      subst (λ n. HasItsLabel (own (sender (wiring_of t) l.0 dir)) (own n) message) back
      (fits-in-flight t es _ l.0 (sender (wiring_of t) l.0 dir) message (in_range_of (sender (wiring_of t) l.0 dir) (sends dir))
      (in_range_of (across (wiring_of t) l.0 (sender (wiring_of t) l.0 dir)) (subst (λ n. n < length t.loopbacks) (sym back) (receives dir)))
      (stays-in-flight t lawful es ps journal _ turn.named l.0 dir below message
      (first_left (w.sessions.said l.0 (sender (wiring_of t) l.0 dir)) (w.sessions.heard l.0 (receiver (wiring_of t) l.0 dir)) more)))

  pub may-hear : MayHear t carried l.0 dir event
  may-hear =
      let found = first-item (on_channel (channel l.0 dir) carried.messages) bytes _ flying in
      let may : MayAct t carried (receiver (wiring_of t) l.0 dir) event =
      may-act t lawful (given t es) (rested_of t es) w carried stands turn.few (receiver (wiring_of t) l.0 dir) event (receives dir) below at_end
      (open-at t lawful (given t es) (rested_of t es) w carried stands (receiver (wiring_of t) l.0 dir) l.0 below alive at_end) in
      let is : IsNode t (given t es) (rested_of t es) w (receiver (wiring_of t) l.0 dir) may.was =
      stands.nodes (receiver (wiring_of t) l.0 dir) may.was may.there in
      record {
        may = may;
        link = refl;
        pdu = found.0;
        flies = found.1;
        session = kept_session;
        lives = ap (λ n. session_at n l.0) is.node_is
            ∙ session-with (wiring_of t) (own_of (given t es)) (node_at t w (receiver (wiring_of t) l.0 dir)) l.0
            ∙ ap (option_map (session_with (own_of (given t es) (across (wiring_of t) l.0 (receiver (wiring_of t) l.0 dir))))) session-is;
        heard = hears may.was found.0 is found.2;
      }
    where
      Heard : Wiring → ℕ → Kept → List ℕ → Event → Type 0
      Heard wi now kept bs e = after_bytes wi now l.0 kept kept_session bs ≡ Ok (record { kept = kept_then wi now kept e; said = pdus_in wi now kept e })

      hears : (x : Standing) (pdu : Item (List ℕ)) → IsNode t (given t es) (rested_of t es) w (receiver (wiring_of t) l.0 dir) x → pdu.item ≡ bytes
          → (now : ℕ) → Heard x.wiring now (kept_in x) pdu.item event
      hears x pdu is spells now =
          let me : x.node.me ≡ receiver (wiring_of t) l.0 dir = ap (λ (n : Node). n.me) is.node_is in
          subst (λ (wi : Wiring). Heard wi now (kept_in x) pdu.item event) (sym is.wiring)
          (subst (λ bs. Heard (wiring_of t) now (kept_in x) bs event) (sym spells)
          (subst (λ (e : Event). Heard (wiring_of t) now (kept_in x) bytes e) (sym next-is)
          (subst (λ n. after_bytes (wiring_of t) now l.0 (kept_in x) kept_session
          (pdu_in_network (wiring_of t) l.0 (sender (wiring_of t) l.0 dir) (own (sender (wiring_of t) l.0 dir)) (own n)
          (1 + w.sessions.heard l.0 (receiver (wiring_of t) l.0 dir)) message).bytes
          ≡ Ok (after_message (wiring_of t) now l.0 (kept_in x) (Some (message, label_with (own (sender (wiring_of t) l.0 dir)) message)))) (me ∙ sym back)
          (one_change (wiring_of t) own now l.0 (sender (wiring_of t) l.0 dir) (1 + w.sessions.heard l.0 (receiver (wiring_of t) l.0 dir)) message
          (kept_in x) kept_session (spelled_apart t lawful)
          (record {
            me = subst (λ n. n < length t.loopbacks) (sym me) (receives dir);
            far_is_node = sends dir;
            other_end = ap (across (wiring_of t) l.0) me ∙ far;
            this_end = back ∙ sym me;
            of_node = speaks t message named;
            its = subst (λ n. HasItsLabel (own (sender (wiring_of t) l.0 dir)) (own n) message) (sym me) its-label;
            row = row;
          })))))

  pub can-hear : CanHear t carried l.0 dir
  can-hear = record { event = event; may = may-hear }
