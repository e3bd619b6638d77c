-- A node that receives a message.
use Rattle.std.proofs.Common.{ℕ, zero, suc, ◌≡◌, ◌≢◌, ◌≤◌, ◌<◌, ◌^◌, inl, inr, Bool, true, false, List, [], ◌∷◌, ◌++◌, length, refl, arith, sym, ◌∙◌, ap, subst}
use Rattle.std.proofs.Common.{replicate}
use Rattle.std.proofs.Common.{Option, Some, None}
use Rattle.std.specs.Prelude.{◌==◌, ◌||◌, not, nat_le, is_some, slice_index_or, slice_set, option_map, position, if◌then◌else◌, ⊤}
use Rattle.std.specs.List.{flat_map}
use Rattle.std.proofs.lemmas.Bool.Decides.{eqb_tells}
use Rattle.std.proofs.lemmas.List.{get_or-set_same, get_or-set_other, get_or_past}
use Rattle.std.proofs.lemmas.Bool.Decides.{leb_tells}
use Rattle.std.proofs.Math.ListN.{length-set}
use Rattle.std.proofs.lemmas.List.Quantifiers.{position-Some}
use Rattle.mn_base.specs.declared.numbers.NodeNo.{NodeNo}
use Rattle.mn_states.specs.declared.states.LdpState.{LdpState}
use Rattle.mn_states.specs.declared.states.LdpState.TheVariants.{Initialized, OpenSent, OpenRec, Operational}
use Rattle.mn_wiring.specs.Wiring.{Wiring, is_end, across}
use Rattle.mn_prefix.specs.Prefix.{AddressBlock}
use Rattle.mn_ldp_wire.specs.declared.message.LdpBody.{LdpBody}
use Rattle.mn_ldp_wire.specs.declared.message.LdpBody.TheVariants as says
use Rattle.mn_ldp_wire.specs.Grammar.{IsLabel, IsLawful}
use Rattle.mn_bindings.specs.declared.event.LibEvent.{LibEvent}
use Rattle.mn_bindings.specs.declared.event.LibEvent.TheVariants as event
use Rattle.mn_bindings.specs.Bindings.{row_of, is_open, with_label, nodes, EventsFit, after_events}
use Rattle.mn_bindings.specs.Bindings as lib
use Rattle.mn_bindings.specs.Tells.{opens, releases}
use Rattle.mn_node.specs.Ldp.{Message, Initialization, KeepAlive, Address, Mapping, Withdraw, Release, said_on, state_after, answer}
use Rattle.mn_node.specs.Node.{Session, session_at, count_by}
use Rattle.mn_node.specs.Machine.{loopback_of, Hears, with_session, labels_after, session_after, answer_in}
use Rattle.mn_node.proofs.Lists.{none_there}
use Rattle.mn_ldp_session.specs.declared.kind.LdpKind.{LdpKind}
use Rattle.mn_ldp_session.specs.declared.kind.LdpKind.TheVariants as kind
use Rattle.mn_ldp_session.specs.declared.session.Session.{Session as Machine}
use Rattle.mn_ldp_session.specs.declared.session.Reply.{Reply}
use Rattle.mn_ldp_session.specs.declared.session.Reply.TheVariants as answer
use Rattle.mn_ldp_session.specs.Table.{kind_of, row, state_after_row, begins}
use Rattle.mn_ldp_session.specs.Spelling.{node_of, message_in, SpeaksOfNode}
use Rattle.mn_lsr.specs.declared.parts.Open.{Open}
use Rattle.mn_lsr.specs.declared.parts.Parts.{Parts}
use Rattle.mn_lsr.specs.Standing.{labels_in, session_in, state_in}
use Rattle.mn_lsr.specs.Replies.{replied, heard_by}
use Rattle.mn_lsr.specs.Telling.{said_by_tell, MayTell}
use Rattle.mn_lsr.specs.Hearing.{machine_then, session_over}
use Rattle.mn_lsr.specs.Parts.{FitsLabel, IsOwn, Owes, AtMost, machines_of, wiring_in, node_in, Stands}
use Rattle.mn_lsr.proofs.Changing.{is_up}
use Rattle.mn_lsr.proofs.Saying.{at-is}
use Rattle.mn_lsr.proofs.Sessions.{IsOwnAt, own-at, machine-at, machines-set}
use Rattle.mn_labels.specs.Labels.{Labels}
use Rattle.mn_releases.specs.Rests.{Resting, count_in}
use Rattle.mn_releases.specs.Rests as rests
use Rattle.mn_bindings.specs.Known.{rested_events}
use Rattle.mn_lsr.specs.Turns.{rested_by_message, owed_for_said}
use Rattle.mn_lsr.proofs.Owing.{released-at, released-open}
use Rattle.mn_lsr.proofs.Closing.{only, below, same_row, row-at, operational-at, session-is, IsOwedThen, far-still, one}
use Rattle.mn_lsr.proofs.After.{Happens, length-machines}

-- 1. What a body says

abbrev pub kind_as : Message → LdpKind
kind_as Initialization = kind.Initialization
kind_as KeepAlive = kind.KeepAlive
kind_as Address = kind.Address
kind_as (Mapping fec) = kind.Mapping
kind_as (Withdraw fec) = kind.Withdraw
kind_as (Release fec) = kind.Release

abbrev pub BringsLabel : Message → ℕ → Type 0
BringsLabel (Mapping fec) label = IsLabel label
BringsLabel (Withdraw fec) label = IsLabel label
BringsLabel message label = ⊤

pub record IsMeant (w : Wiring) (body : LdpBody) (message : Message) (label : ℕ) : Type 0 where
  pub kind_is : kind_of body ≡ kind_as message
  pub node : SpeaksOfNode w message
  pub label_fits : BringsLabel message label

some_same : {A : Type 0} {x y : A} → Some x ≡ Some y → x ≡ y
some_same e = cc

node-below : (w : Wiring) (prefix : AddressBlock) (fec : ℕ) → node_of w prefix ≡ Some fec → fec < length w.loopbacks
node-below w prefix fec e = by (prefix.length == 32) e
  where
    by : (b : Bool) → (let o : Option ℕ = if b then position (λ loopback. loopback == prefix.address) w.loopbacks else None in o) ≡ Some fec →
        fec < length w.loopbacks
    by true f = (position-Some (λ loopback. loopback == prefix.address) w.loopbacks fec 0 f).0
    by false f = cc

-- a message about a prefix is about the node with that loopback
meant-of : (w : Wiring) (body : LdpBody) (prefix : AddressBlock) (make : ℕ → Message) (given : ℕ) (message : Message) (label : ℕ) →
    ((fec : ℕ) → fec < length w.loopbacks → IsMeant w body (make fec) given) → (o : Option ℕ) → node_of w prefix ≡ o
    → option_map (λ (fec : ℕ). let x : Message × ℕ = (make fec, given) in x) o ≡ Some (message, label) → IsMeant w body message label
meant-of w body prefix make given message label meant None f g = cc
meant-of w body prefix make given message label meant (Some fec) f g =
    subst (λ (x : Message × ℕ). IsMeant w body x.0 x.1) (some_same g) (meant fec (node-below w prefix fec f))

pub meant-is : (w : Wiring) (body : LdpBody) (message : Message) (label : ℕ) → IsLawful body → message_in w body ≡ Some (message, label) →
    IsMeant w body message label
meant-is w (says.Notification status about k) message label lawful e = absurd (none e)
  where
    none : {x : Message × ℕ} → None ≡ Some x → ⊥
    none f = cc
meant-is w (says.Initialization version keepalive flags limit greatest receiver) message label lawful e =
    subst (λ (x : Message × ℕ). IsMeant w (says.Initialization version keepalive flags limit greatest receiver) x.0 x.1) (some_same e) (record {
      kind_is =
          refl;
      node = tt;
      label_fits = tt;
    })
meant-is w says.KeepAlive message label lawful e =
    subst (λ (x : Message × ℕ). IsMeant w says.KeepAlive x.0 x.1) (some_same e) (record { kind_is = refl; node = tt; label_fits = tt })
meant-is w (says.Address addresses) message label lawful e =
    subst (λ (x : Message × ℕ). IsMeant w (says.Address addresses) x.0 x.1) (some_same e) (record { kind_is = refl; node = tt; label_fits = tt })
meant-is w (says.Mapping prefix given) message label lawful e =
    meant-of w (says.Mapping prefix given) prefix Mapping given message label
    (λ fec below. record { kind_is = refl; node = below; label_fits = lawful.is_label }) (node_of w prefix) refl e
meant-is w (says.Withdraw prefix given) message label lawful e =
    meant-of w (says.Withdraw prefix given) prefix Withdraw given message label
    (λ fec below. record { kind_is = refl; node = below; label_fits = lawful.is_label }) (node_of w prefix) refl e
meant-is w (says.Release prefix given) message label lawful e =
    meant-of w (says.Release prefix given) prefix Release 0 message label
    (λ fec below. record { kind_is = refl; node = below; label_fits = tt }) (node_of w prefix) refl e

-- 2. Labels

label-small : (label : ℕ) → IsLabel label → label < 2 ^ 20
label-small label (inl e) = omega (arith, e)
label-small label (inr h) = h.1

fit-set : (labels : List (Option ℕ)) (fec : ℕ) (x : Option ℕ) → FitsLabel x → ((k : ℕ) → FitsLabel (slice_index_or labels k None)) →
    (k : ℕ) → FitsLabel (slice_index_or (slice_set labels fec x) k None)
fit-set labels fec x h fit k = elim (eqb_tells k fec) [
  | inl p ↦ elim (leb_tells (length labels) fec) [
    | inl q ↦ subst FitsLabel (sym (get_or_past (slice_set labels fec x) k None (omega (arith, q.1, p.1, length-set labels fec x)))) tt
    | inr q ↦ subst FitsLabel (sym (ap (λ j. slice_index_or (slice_set labels fec x) j None) p.1 ∙ get_or-set_same labels fec x None q.1)) h
  ]
  | inr p ↦ subst FitsLabel (sym (get_or-set_other labels fec k x None p.1)) (fit k)
]

fit-with : (r : Option (List (Option ℕ))) (fec : ℕ) (x : Option ℕ) → FitsLabel x → ((k : ℕ) → FitsLabel (lib.label_learned r k)) →
    (k : ℕ) → FitsLabel (lib.label_learned (with_label r fec x) k)
fit-with None fec x h fit k = tt
fit-with (Some labels) fec x h fit k = fit-set labels fec x h fit k

some-with : (r : Option (List (Option ℕ))) (fec : ℕ) (x : Option ℕ) → is_some (with_label r fec x) ≡ is_some r
some-with None fec x = refl
some-with (Some labels) fec x = refl

labels-with : (n : ℕ) (r : Option (List (Option ℕ))) (fec : ℕ) (x : Option ℕ) → is_some r ≡ true →
    slice_set (labels_in n r) fec x ≡ labels_in n (with_label r fec x)
labels-with n None fec x e = cc
labels-with n (Some labels) fec x e = refl

clash : true ≡ false → ⊥
clash g = cc

test_same : (k : ℕ) → (k == k) ≡ true
test_same k = elim (eqb_tells k k) [ inl p ↦ p.0 | inr p ↦ absurd (p.1 refl) ]

test_other : (a b : ℕ) → b ≢ a → (a == b) ≡ false
test_other a b d = elim (eqb_tells a b) [ inl p ↦ absurd (d (sym p.1)) | inr p ↦ p.0 ]

-- 3. One message

module _ (p : Parts) (st : Stands p) (l : ℕ) (there : l < length p.view.ends) (end : Open) (is : slice_index_or p.sessions.items l None ≡ Some end) where
  ours : IsOwn (wiring_in p) p.me.0 l end.session
  ours = (own-at (wiring_in p) p.me.0 p.sessions.items l end st.ends is).0

  abbrev at_end : is_end (wiring_in p) l p.me.0 ≡ true
  at_end = ours.at_end

  abbrev far : ℕ
  far = across (wiring_in p) l p.me.0

  abbrev old_row : Option (List (Option ℕ))
  old_row = row_of p.lib.bindings (across (wiring_in p) l p.me.0)

  session_there : session_at (node_in p) l ≡ Some (session_in (wiring_in p) p.me.0 p.lib.bindings l end)
  session_there = session-is p st l there at_end ∙ ap (option_map (session_in (wiring_in p) p.me.0 p.lib.bindings l)) is

  up-is : is_up (session_at (node_in p) l) ≡ nat_le 2 (count_by end.session.state)
  up-is = ap is_up session_there

  open-is : is_some old_row ≡ nat_le 2 (count_by end.session.state)
  open-is = operational-at p st l there at_end ∙ up-is

  abbrev heard_end : LdpState → Open
  heard_end next = record { session = record end.session { state = next }; said = end.said }

  own_then : (next : LdpState) → IsOwnAt (wiring_in p) p.me.0 l (Some (heard_end next))
  own_then next x e =
      record {
        at_end = at_end;
        me_is = ap (λ (m : Machine). m.me) (sym (same e)) ∙ ours.me_is;
        peer_is =
            ap (λ (m : Machine). m.peer) (sym (same e)) ∙ ours.peer_is;
      }
    where
      same : Some (heard_end next) ≡ Some x → record end.session { state = next } ≡ x.session
      same f = ap (λ (o : Open). o.session) (some_same f)

  -- the message changes the session and the row to these
  heard : (m : Message) (label : ℕ) (next : LdpState) (es : List LibEvent) (new_row : Option (List (Option ℕ))) (reply : Reply) →
      state_after end.session.state m ≡ next
      → after_events p.lib.bindings es ≡ record p.lib.bindings { heard = slice_set p.lib.bindings.heard (across (wiring_in p) l p.me.0) new_row }
      → labels_after (labels_in (length p.loopbacks.items) (row_of p.lib.bindings (across (wiring_in p) l p.me.0))) m label ≡ labels_in
      (length p.loopbacks.items) new_row
      → is_some new_row ≡ nat_le 2 (count_by next) →
      (nat_le 2 (count_by next) ≡ true → nat_le 2 (count_by end.session.state) ≡ not (opens es (across (wiring_in p) l p.me.0)))
      → ((h : ℕ) → h ≢ across (wiring_in p) l p.me.0 → opens es h ≡ false)
      → said_on l p.me.0 (answer end.session.state m) ≡ said_on l p.me.0 (replied reply) ++ flat_map (said_by_tell (wiring_in p) p.me.0) (releases es)
      → ((fec : ℕ) → FitsLabel (lib.label_learned new_row fec)) → EventsFit p.lib.bindings es → length es ≤ 256
      → ((tick : ℕ) → rested_events tick p.lib.resting es ≡ rested_by_message tick m (Some end.session.state) (across (wiring_in p) l p.me.0) p.lib.resting)
      → ((tick : ℕ) → IsOwedThen p st l there at_end tick es (Some (heard_end next)) new_row)
      → Happens p (Hears l m label) p.view.counts es (slice_set p.sessions.items l (Some (heard_end next))) l (replied reply)
  heard m label next es new_row reply next_is lib_is labels_are up was off answered fit fits short rested owes =
      one p st l there at_end (Hears l m label) es (Some (heard_end next)) new_row (replied reply) lib_is
      (ap (λ s. with_session (node_in p) l (option_map (session_after m label) s)) session_there
      ∙ ap (λ s. with_session (node_in p) l (let o : Option Session =
      Some (record {
        state = s;
        said = end.said;
        labels =
            labels_after (labels_in (length p.loopbacks.items) (row_of p.lib.bindings (across (wiring_in p) l p.me.0))) m label;
      }) in o)) next_is
      ∙ ap (λ ls. with_session (node_in p) l (let o : Option Session = Some (record { state = next; said = end.said; labels = ls }) in o))
      (labels_are ∙ ap (labels_in (length p.loopbacks.items)) (sym (row-at p st l there at_end new_row))))
      up (λ on. up-is ∙ was on) off (ap (λ s. said_on l p.me.0 (answer_in s m)) session_there ∙ answered) (own_then next) fit fits short
      (λ tick. rested tick ∙ sym (ap (λ s. rested_by_message tick m s (across (wiring_in p) l p.me.0) p.lib.resting) (ap state_in session_there))) owes
      (λ x. quiet_reply reply x)
    where
      quiet_reply : (y : Reply) (x : Resting) → owed_for_said (wiring_in p) p.me.0 x (said_on l p.me.0 (replied y)) ≡ x
      quiet_reply answer.Nothing x = refl
      quiet_reply answer.Initialization x = refl
      quiet_reply answer.Both x = refl
      quiet_reply answer.KeepAlive x = refl
      quiet_reply answer.Begins x = refl

  rests_open : is_some (rests.row_of p.lib.resting (across (wiring_in p) l p.me.0)) ≡ is_some old_row
  rests_open = st.owed.open_is (across (wiring_in p) l p.me.0)

  -- the neighbour owes what it owed
  same_owed : (next : LdpState) (new_row : Option (List (Option ℕ))) → is_some new_row ≡ is_some old_row → (es : List LibEvent) →
      ((tick : ℕ) → rested_events tick p.lib.resting es ≡ p.lib.resting) → (tick : ℕ) → IsOwedThen p st l there at_end tick es (Some (heard_end next)) new_row
  same_owed next new_row same es stays tick = record {
    rows = ap (λ (x : Resting). length x.owed) (stays tick);
    others = λ h d. ap (λ x. rests.row_of x h) (stays tick);
    open_is = ap (λ x. is_some (rests.row_of x (across (wiring_in p) l p.me.0))) (stays tick) ∙ rests_open ∙ sym same;
    far_owes = subst (λ x. Owes (wiring_in p) p.me.0 x (slice_set p.sessions.items l (Some (heard_end next))) (across (wiring_in p) l p.me.0))
        (sym (stays tick))
        (far-still p st l there at_end p.lib.resting end (heard_end next) is (omega arith) (λ f. omega arith) (λ none. none));
  }

  -- a message before the session is OPERATIONAL changes no row
  before : (m : Message) (label : ℕ) (next : LdpState) (reply : Reply) → state_after end.session.state m ≡ next →
      nat_le 2 (count_by end.session.state) ≡ false → nat_le 2 (count_by next) ≡ false
      → ((labels : List (Option ℕ)) → labels_after labels m label ≡ labels) →
      said_on l p.me.0 (answer end.session.state m) ≡ said_on l p.me.0 (replied reply) ++ []
      → ((tick : ℕ) → p.lib.resting ≡ rested_by_message tick m (Some end.session.state) (across (wiring_in p) l p.me.0) p.lib.resting)
      → Happens p (Hears l m label) p.view.counts [] (slice_set p.sessions.items l (Some (heard_end next))) l (replied reply)
  before m label next reply next_is off off_then same answered unrested =
      heard m label next [] old_row reply next_is (same_row p st l there at_end) (same (labels_in (length p.loopbacks.items) old_row))
      (open-is ∙ off ∙ sym off_then) (λ on. absurd (clash (sym on ∙ off_then))) (λ h d. refl) answered
      (λ fec. st.fit (across (wiring_in p) l p.me.0) fec) tt (omega arith) unrested (same_owed next old_row refl [] (λ tick. refl))

  -- the session begins
  began : (label : ℕ) → end.session.state ≡ OpenRec →
      Happens p (Hears l KeepAlive label) p.view.counts (event.Opened (record { 0 = across (wiring_in p) l p.me.0 }) ∷ [])
      (slice_set p.sessions.items l (Some (heard_end Operational))) l (replied answer.Begins)
  began label e =
      let off : nat_le 2 (count_by end.session.state) ≡ false = ap (λ s. nat_le 2 (count_by s)) e in
      let row_none : old_row ≡ None = none old_row (open-is ∙ off) in
      heard KeepAlive label Operational (event.Opened (record { 0 = across (wiring_in p) l p.me.0 }) ∷ []) (Some (replicate (nodes p.lib.bindings) None))
      answer.Begins
      (ap (λ s. state_after s KeepAlive) e) refl
      (ap (labels_in (length p.loopbacks.items)) row_none ∙ ap (λ k. let o : List (Option ℕ) = replicate k None in o) (sym st.tied.one_each)) refl
      (λ on. off ∙ sym (ap (λ b. not (b || false)) (test_same (across (wiring_in p) l p.me.0))))
      (λ h d. ap (λ b. b || false) (test_other (across (wiring_in p) l p.me.0) h d))
      (ap (λ s. said_on l p.me.0 (answer s KeepAlive)) e) (λ fec. subst FitsLabel (sym (none_there (nodes p.lib.bindings) fec)) tt)
      ((omega (arith, below p st l there at_end, st.tied.one_each), open-is ∙ off), tt) (omega arith)
      (λ tick. ap (λ s. rested_by_message tick KeepAlive (let o : Option LdpState = Some s in o) (across (wiring_in p) l p.me.0) p.lib.resting) (sym e))
      (λ tick. record {
        rows = length-set p.lib.resting.owed (across (wiring_in p) l p.me.0) _;
        others = λ h d. get_or-set_other p.lib.resting.owed (across (wiring_in p) l p.me.0) h _ None d;
        open_is = ap is_some (get_or-set_same p.lib.resting.owed (across (wiring_in p) l p.me.0) (Some (replicate (length p.lib.resting.rested) 0)) None
            inside);
        far_owes = AtMost l (heard_end Operational) (only p st l there at_end)
            (get_or-set_same p.sessions.items l (Some (heard_end Operational)) None (omega (arith, there, st.ends.one_each, length-machines p.sessions.items)))
            (λ f. subst (λ o. count_in o f ≤ end.said)
            (sym (get_or-set_same p.lib.resting.owed (across (wiring_in p) l p.me.0) (Some (replicate (length p.lib.resting.rested) 0)) None inside))
            (subst (λ k. k ≤ end.said) (sym (noughts (length p.lib.resting.rested) f)) (omega arith)));
      })
    where
      inside : across (wiring_in p) l p.me.0 < length p.lib.resting.owed
      inside = omega (arith, below p st l there at_end, st.owed.rows)

      noughts : (k f : ℕ) → slice_index_or (replicate k zero) f zero ≡ zero
      noughts zero f = refl
      noughts (suc k) zero = refl
      noughts (suc k) (suc f) = noughts k f

      none : (o : Option (List (Option ℕ))) → is_some o ≡ false → o ≡ None
      none None f = refl
      none (Some labels) f = cc

  module _ (up : end.session.state ≡ Operational) where
    on : nat_le 2 (count_by end.session.state) ≡ true
    on = ap (λ s. nat_le 2 (count_by s)) up

    fits_far : (across (wiring_in p) l p.me.0) < nodes p.lib.bindings
    fits_far = omega (arith, below p st l there at_end, st.tied.one_each)

    -- a message that says nothing of labels
    idle : (m : Message) (label : ℕ) → state_after Operational m ≡ Operational →
        ((labels : List (Option ℕ)) → labels_after labels m label ≡ labels) → answer Operational m ≡ []
        → ((tick : ℕ) → p.lib.resting ≡ rested_by_message tick m (Some Operational) (across (wiring_in p) l p.me.0) p.lib.resting)
        → Happens p (Hears l m label) p.view.counts [] (slice_set p.sessions.items l (Some (heard_end Operational))) l (replied answer.Nothing)
    idle m label stays same quiet unrested =
        heard m label Operational [] old_row answer.Nothing (ap (λ s. state_after s m) up ∙ stays) (same_row p st l there at_end)
        (same (labels_in (length p.loopbacks.items) old_row)) (open-is ∙ on) (λ f. on) (λ h d. refl)
        (ap (λ s. said_on l p.me.0 (answer s m)) up ∙ ap (said_on l p.me.0) quiet) (λ fec. st.fit (across (wiring_in p) l p.me.0) fec) tt (omega arith)
        (λ tick. unrested tick
        ∙ ap (λ s. rested_by_message tick m (let o : Option LdpState = Some s in o) (across (wiring_in p) l p.me.0) p.lib.resting) (sym up))
        (same_owed Operational old_row refl [] (λ tick. refl))

    -- a Release
    released : (fec label : ℕ) → fec < length p.loopbacks.items
        → Happens p (Hears l (Release fec) label) p.view.counts (event.Released (record { 0 = across (wiring_in p) l p.me.0 }) (record { 0 = fec }) ∷ [])
        (slice_set p.sessions.items l (Some (heard_end Operational))) l (replied answer.Nothing)
    released fec label fec_below =
        heard (Release fec) label Operational (event.Released (record { 0 = across (wiring_in p) l p.me.0 }) (record { 0 = fec }) ∷ []) old_row answer.Nothing
        (ap (λ s. state_after s (Release fec)) up) (same_row p st l there at_end) refl (open-is ∙ on) (λ f. on) (λ h d. refl)
        (ap (λ s. said_on l p.me.0 (answer s (Release fec))) up) (λ k. st.fit (across (wiring_in p) l p.me.0) k)
        ((fits_far, open-is ∙ on, omega (arith, fec_below, st.tied.one_each)), tt) (omega arith) (λ tick. refl)
        (λ tick. record {
          rows = length-set p.lib.resting.owed (across (wiring_in p) l p.me.0) _;
          others = λ h d. get_or-set_other p.lib.resting.owed (across (wiring_in p) l p.me.0) h _ None d;
          open_is = released-open p.lib.resting (across (wiring_in p) l p.me.0) fec tick (across (wiring_in p) l p.me.0) ∙ rests_open;
          far_owes = far-still p st l there at_end (rests.released p.lib.resting (across (wiring_in p) l p.me.0) fec tick) end (heard_end Operational) is
              (omega arith)
              (λ f. released-at p.lib.resting (across (wiring_in p) l p.me.0) fec tick f)
              (λ none. unowed (rests.row_of (rests.released p.lib.resting (across (wiring_in p) l p.me.0) fec tick) (across (wiring_in p) l p.me.0))
              (released-open p.lib.resting (across (wiring_in p) l p.me.0) fec tick (across (wiring_in p) l p.me.0) ∙ ap is_some none));
        })
      where
        unowed : (o : Option (List ℕ)) → is_some o ≡ false → o ≡ None
        unowed None f = refl
        unowed (Some row) f = cc

    mapped : (fec label : ℕ) → fec < length p.loopbacks.items → IsLabel label
        → Happens p (Hears l (Mapping fec) label) p.view.counts (event.Map (record { 0 = across (wiring_in p) l p.me.0 }) (record { 0 = fec }) label ∷ [])
        (slice_set p.sessions.items l (Some (heard_end Operational))) l (replied answer.Nothing)
    mapped fec label fec_below is_label =
        heard (Mapping fec) label Operational (event.Map (record { 0 = across (wiring_in p) l p.me.0 }) (record { 0 = fec }) label ∷ [])
        (with_label old_row fec (Some label)) answer.Nothing (ap (λ s. state_after s (Mapping fec)) up) refl
        (labels-with (length p.loopbacks.items) old_row fec (Some label) (open-is ∙ on)) (some-with old_row fec (Some label) ∙ open-is ∙ on) (λ f. on)
        (λ h d. refl) (ap (λ s. said_on l p.me.0 (answer s (Mapping fec))) up)
        (fit-with old_row fec (Some label) (label-small label is_label) (λ k. st.fit (across (wiring_in p) l p.me.0) k))
        ((fits_far, open-is ∙ on, omega (arith, fec_below, st.tied.one_each)), tt) (omega arith) (λ tick. refl)
        (same_owed Operational (with_label old_row fec (Some label)) (some-with old_row fec (Some label))
        (event.Map (record { 0 = across (wiring_in p) l p.me.0 }) (record { 0 = fec }) label ∷ []) (λ tick. refl))

    withdrawn : (fec label : ℕ) → fec < length p.loopbacks.items
        → Happens p (Hears l (Withdraw fec) label) p.view.counts (event.Withdraw (record { 0 = across (wiring_in p) l p.me.0 }) (record { 0 = fec }) ∷ [])
        (slice_set p.sessions.items l (Some (heard_end Operational))) l (replied answer.Nothing)
    withdrawn fec label fec_below =
        heard (Withdraw fec) label Operational (event.Withdraw (record { 0 = across (wiring_in p) l p.me.0 }) (record { 0 = fec }) ∷ [])
        (with_label old_row fec None) answer.Nothing (ap (λ s. state_after s (Withdraw fec)) up) refl
        (labels-with (length p.loopbacks.items) old_row fec None (open-is ∙ on)) (some-with old_row fec None ∙ open-is ∙ on) (λ f. on) (λ h d. refl)
        (ap (λ s. said_on l p.me.0 (answer s (Withdraw fec))) up
        ∙ sym (ap (λ ls. flat_map (λ k. said_on k p.me.0 (Release fec ∷ [])) ls ++ []) (only p st l there at_end)))
        (fit-with old_row fec None tt (λ k. st.fit (across (wiring_in p) l p.me.0) k))
        ((fits_far, open-is ∙ on, omega (arith, fec_below, st.tied.one_each)), tt) (omega arith) (λ tick. refl)
        (same_owed Operational (with_label old_row fec None) (some-with old_row fec None)
        (event.Withdraw (record { 0 = across (wiring_in p) l p.me.0 }) (record { 0 = fec }) ∷ []) (λ tick. refl))

  abbrev IsHearing : Message → ℕ → Reply → LdpState → Type 0
  IsHearing m label reply next =
      Happens p (Hears l m label) p.view.counts (heard_by (record { 0 = across (wiring_in p) l p.me.0 }) (begins reply) m label)
      (slice_set p.sessions.items l (Some (heard_end next))) l (replied reply)

  by_table : (state : LdpState) (m : Message) (label : ℕ) → end.session.state ≡ state → SpeaksOfNode (wiring_in p) m → BringsLabel m label →
      (o : Option (Reply × LdpState)) → row state (kind_as m) ≡ o → (reply : Reply) (next : LdpState)
      → o ≡ Some (reply, next) → IsHearing m label reply next
  by_table Initialized Initialization label e node fits o f reply next g =
      subst (λ (x : Reply × LdpState). IsHearing Initialization label x.0 x.1) (some_same (f ∙ g))
      (before Initialization label OpenRec answer.Both (ap (λ s. state_after s Initialization) e) (ap (λ s. nat_le 2 (count_by s)) e) refl (λ ls. refl)
      (ap (λ s. said_on l p.me.0 (answer s Initialization)) e) (λ tick. refl))
  by_table OpenSent Initialization label e node fits o f reply next g =
      subst (λ (x : Reply × LdpState). IsHearing Initialization label x.0 x.1) (some_same (f ∙ g))
      (before Initialization label OpenRec answer.KeepAlive (ap (λ s. state_after s Initialization) e) (ap (λ s. nat_le 2 (count_by s)) e) refl (λ ls. refl)
      (ap (λ s. said_on l p.me.0 (answer s Initialization)) e) (λ tick. refl))
  by_table OpenRec KeepAlive label e node fits o f reply next g =
      subst (λ (x : Reply × LdpState). IsHearing KeepAlive label x.0 x.1) (some_same (f ∙ g)) (began label e)
  by_table Operational KeepAlive label e node fits o f reply next g =
      subst (λ (x : Reply × LdpState). IsHearing KeepAlive label x.0 x.1) (some_same (f ∙ g)) (idle e KeepAlive label refl (λ ls. refl) refl (λ tick. refl))
  by_table Operational Address label e node fits o f reply next g =
      subst (λ (x : Reply × LdpState). IsHearing Address label x.0 x.1) (some_same (f ∙ g)) (idle e Address label refl (λ ls. refl) refl (λ tick. refl))
  by_table Operational (Release fec) label e node fits o f reply next g =
      subst (λ (x : Reply × LdpState). IsHearing (Release fec) label x.0 x.1) (some_same (f ∙ g)) (released e fec label node)
  by_table Operational (Mapping fec) label e node fits o f reply next g =
      subst (λ (x : Reply × LdpState). IsHearing (Mapping fec) label x.0 x.1) (some_same (f ∙ g)) (mapped e fec label node fits)
  by_table Operational (Withdraw fec) label e node fits o f reply next g =
      subst (λ (x : Reply × LdpState). IsHearing (Withdraw fec) label x.0 x.1) (some_same (f ∙ g)) (withdrawn e fec label node)
  by_table state m label e node fits o f reply next g = cc

  pub hearing : (body : LdpBody) (m : Message) (label : ℕ) (reply : Reply) (next : LdpState) → IsMeant (wiring_in p) body m label →
      row end.session.state (kind_of body) ≡ Some (reply, next) → IsHearing m label reply next
  hearing body m label reply next meant f =
      by_table end.session.state m label refl meant.node meant.label_fits (row end.session.state (kind_as m)) refl reply next
      (ap (row end.session.state) (sym meant.kind_is) ∙ f)

  pub may_release : (m : Message) (label : ℕ) (began : Bool) (labels : Labels) → SpeaksOfNode (wiring_in p) m → BringsLabel m label →
      MayTell (length p.loopbacks.items) p.me.0 labels label (releases (heard_by (record { 0 = across (wiring_in p) l p.me.0 }) began m label))
  may_release Initialization label true labels node fits = tt
  may_release Initialization label false labels node fits = tt
  may_release KeepAlive label true labels node fits = tt
  may_release KeepAlive label false labels node fits = tt
  may_release Address label true labels node fits = tt
  may_release Address label false labels node fits = tt
  may_release (Mapping fec) label true labels node fits = tt
  may_release (Mapping fec) label false labels node fits = tt
  may_release (Withdraw fec) label true labels node fits = (node, fits, tt)
  may_release (Withdraw fec) label false labels node fits = (node, fits, tt)
  may_release (Release fec) label true labels node fits = tt
  may_release (Release fec) label false labels node fits = tt

  -- the same by the state machine that the session has then, and by the events that were made
  pub hearing-as : (body : LdpBody) (m : Message) (label : ℕ) (reply : Reply) (machine : Machine) (to : NodeNo) (es : List LibEvent)
      (ends : List (Option Open)) → IsMeant (wiring_in p) body m label
      → row end.session.state (kind_of body) ≡ Some (reply, machine.state) → machine ≡ record end.session { state = machine.state } →
      to.0 ≡ across (wiring_in p) l p.me.0 → es ≡ heard_by to (begins reply) m label
      → ends ≡ slice_set p.sessions.items l (Some (record { session = machine; said = end.said }))
      → Happens p (Hears l m label) p.view.counts es ends l (replied reply) × ((labels : Labels) →
      MayTell (length p.loopbacks.items) p.me.0 labels label (releases es))
  hearing-as body m label reply machine to es ends meant f e g i j =
      let es_are : es ≡ heard_by (record { 0 = across (wiring_in p) l p.me.0 }) (begins reply) m label =
      i ∙ ap (λ k. heard_by (let o : NodeNo = record { 0 = k } in o) (begins reply) m label) g in
      let ends_are : ends ≡ slice_set p.sessions.items l (Some (heard_end machine.state)) =
      j ∙ ap (λ x. slice_set p.sessions.items l (let o : Option Open = Some (record { session = x; said = end.said }) in o)) e in (
        subst (λ xs. Happens p (Hears l m label) p.view.counts xs ends l (replied reply)) (sym es_are)
            (subst (λ xs. Happens p (Hears l m label) p.view.counts
            (heard_by (record { 0 = across (wiring_in p) l p.me.0 }) (begins reply) m label) xs l (replied reply)) (sym ends_are)
            (hearing body m label reply machine.state meant f)),
        λ labels. subst (λ xs. MayTell (length p.loopbacks.items) p.me.0 labels label (releases xs)) (sym es_are)
            (may_release m label (begins reply) labels meant.node meant.label_fits),
      )

  -- the state machine then
  pub machine-heard : (body : LdpBody) (reply : Reply) (machine : Machine) (ends : List (Option Open)) →
      row end.session.state (kind_of body) ≡ Some (reply, machine.state) → machine ≡ record end.session { state = machine.state }
      → ends ≡ slice_set p.sessions.items l (Some (record { session = machine; said = end.said })) →
      slice_index_or (machines_of ends) l None ≡ machine_then (slice_index_or p.sessions.items l None) body
  machine-heard body reply machine ends f e j =
      ap (λ xs. slice_index_or (machines_of xs) l None) j
      ∙ ap (λ ms. slice_index_or ms l None) (machines-set p.sessions.items l (Some (record { session = machine; said = end.said })))
      ∙ get_or-set_same (machines_of p.sessions.items) l (Some machine) None (omega (arith, there, st.ends.one_each))
      ∙ ap (λ m. let o : Option Machine = Some m in
      o) (e ∙ ap (λ s. let o : Machine = record end.session { state = s } in o) (sym (ap (state_after_row end.session.state) f)))
      ∙ sym (ap (λ o. machine_then o body) is)

-- the state machine of a session is that of the node's end
pub machine-over : (p : Parts) (st : Stands p) (l : ℕ) (session : Session) → session_at (node_in p) l ≡ Some session →
    slice_index_or (machines_of p.sessions.items) l None ≡ Some (session_over (wiring_in p) l p.me.0 session)
machine-over p st l session e = by (slice_index_or p.sessions.items l None) refl
  where
    at : session_at (node_in p) l ≡ option_map (session_in (wiring_in p) p.me.0 p.lib.bindings l) (slice_index_or p.sessions.items l None)
    at = at-is (wiring_in p) p.me.0 p.lib.bindings p.sessions.items 0 l l (omega arith)

    by : (o : Option Open) → slice_index_or p.sessions.items l None ≡ o →
        slice_index_or (machines_of p.sessions.items) l None ≡ Some (session_over (wiring_in p) l p.me.0 session)
    by None f = absurd (none (sym (at ∙ ap (option_map (session_in (wiring_in p) p.me.0 p.lib.bindings l)) f) ∙ e))
      where
        none : None ≡ Some session → ⊥
        none g = cc
    by (Some end) f =
        let own : IsOwn (wiring_in p) p.me.0 l end.session = (own-at (wiring_in p) p.me.0 p.sessions.items l end st.ends f).0 in
        let same : session_in (wiring_in p) p.me.0 p.lib.bindings l end ≡ session =
        some_same (sym (at ∙ ap (option_map (session_in (wiring_in p) p.me.0 p.lib.bindings l)) f) ∙ e) in
        machine-at p.sessions.items l ∙ ap (option_map (λ (x : Open). x.session)) f
        ∙ ap (λ a. let o : Option Machine = Some (record { me = a; peer = end.session.peer; state = end.session.state }) in o) own.me_is
        ∙ ap (λ a. let o : Option Machine = Some (record { me = loopback_of (wiring_in p) p.me.0; peer = a; state = end.session.state }) in o) own.peer_is
        ∙ ap (λ (s : Session). let o : Option Machine = Some (session_over (wiring_in p) l p.me.0 s) in o) same

pub machine-some : (p : Parts) → Stands p → (l : ℕ) → session_at (node_in p) l ≢ None → slice_index_or (machines_of p.sessions.items) l None ≢ None
machine-some p st l some none = by (session_at (node_in p) l) refl
  where
    by : (o : Option Session) → session_at (node_in p) l ≡ o → ⊥
    by None e = some e
    by (Some session) e = clash_none (sym none ∙ machine-over p st l session e)
      where
        clash_none : None ≡ Some (session_over (wiring_in p) l p.me.0 session) → ⊥
        clash_none f = cc
