-- One session and its neighbour's row change, and what happens to the node is that.
use Rattle.std.proofs.Common.{ℕ, zero, suc, ◌≡◌, ◌≢◌, ◌≤◌, ◌<◌, length-set, inl, inr, true, false, List, [], ◌∷◌, ◌++◌, length, refl, arith, sym, ◌∙◌, ap}
use Rattle.std.proofs.Common.{subst, Option, Some, None}
use Rattle.std.specs.Prelude.{not, nat_le, is_some, slice_index_or, slice_set, option_map}
use Rattle.std.specs.List.{flat_map}
use Rattle.std.proofs.lemmas.Bool.Decides.{eqb_tells}
use Rattle.std.proofs.lemmas.List.{get_or-set_same, get_or-set_other, set-get_or}
use Rattle.mn_base.specs.declared.numbers.NodeNo.{NodeNo}
use Rattle.mn_states.specs.declared.states.LdpState.{LdpState}
use Rattle.mn_states.specs.declared.states.LdpState.TheVariants.{Initialized, OpenSent, OpenRec, Operational}
use Rattle.mn_wiring.specs.Wiring.{Wiring, is_end, across, joining}
use Rattle.mn_bindings.specs.declared.event.LibEvent.{LibEvent}
use Rattle.mn_bindings.specs.declared.event.LibEvent.TheVariants as event
use Rattle.mn_bindings.specs.Bindings.{Bindings, nodes, row_of, is_open, EventsFit, after_events}
use Rattle.mn_bindings.specs.Bindings as lib
use Rattle.mn_bindings.specs.Tells.{opens, releases}
use Rattle.mn_node.specs.Ldp.{Message, said_on, is_operational}
use Rattle.mn_node.specs.Node.{Session, Node, session_at, knowledge_in, count_by}
use Rattle.mn_node.specs.Machine.{Event, Closes, with_session, changed, answers}
use Rattle.mn_lsr.specs.declared.parts.Open.{Open}
use Rattle.mn_lsr.specs.declared.parts.Parts.{Parts}
use Rattle.mn_lsr.specs.Standing.{labels_in, session_in, session_label, state_in}
use Rattle.mn_lsr.specs.Telling.{said_by_tell, MayTell}
use Rattle.mn_lsr.specs.Replies.{closing_by, closing_events}
use Rattle.mn_lsr.specs.Ties.{AreTied}
use Rattle.mn_labels.specs.Labels.{Labels}
use Rattle.mn_releases.specs.Rests.{Resting, count_in}
use Rattle.mn_releases.specs.Rests as rests
use Rattle.mn_bindings.specs.Known.{rested_events}
use Rattle.mn_lsr.specs.Turns.{rested_by_end, rested_by_event, owed_for_said}
use Rattle.mn_lsr.specs.Parts.{FitsLabel, IsOwn, AreOwed, Owes, Nothing, AtMost, wiring_in, node_in, Stands}
use Rattle.mn_lsr.proofs.Saying.{with_ends, at-is}
use Rattle.mn_lsr.proofs.Changing.{is_up, operational-is, leads, tied-one}
use Rattle.mn_lsr.proofs.Sessions.{only_link, far_below, IsOwnAt, own-at, own-set, sessions-one, length-sessions}
use Rattle.mn_lsr.proofs.After.{Happens}

module _ (p : Parts) (st : Stands p) (l : ℕ) (there : l < length p.view.ends) (at_end : is_end (wiring_in p) l p.me.0 ≡ true) where
  abbrev pub w : Wiring
  w = wiring_in p

  abbrev pub n : Node
  n = node_in p

  abbrev pub far : ℕ
  far = across (wiring_in p) l p.me.0

  pub only : joining w p.me.0 far ≡ l ∷ []
  only = only_link w p.me.0 l st.wired.joins st.wired.once st.me there at_end

  pub below : far < length p.loopbacks.items
  below = far_below w p.me.0 l st.wired.joins st.wired.once st.me there at_end

  pub operational-at : is_open p.lib.bindings far ≡ is_up (session_at n l)
  operational-at = st.tied.open_is far l below only ∙ operational-is n l

  pub session-is : session_at n l ≡ option_map (session_in w p.me.0 p.lib.bindings l) (slice_index_or p.sessions.items l None)
  session-is = at-is w p.me.0 p.lib.bindings p.sessions.items 0 l l (omega arith)

  -- the bindings with another row of this neighbour
  abbrev pub with_row : Option (List (Option ℕ)) → Bindings
  with_row row = record p.lib.bindings { heard = slice_set p.lib.bindings.heard far row }

  pub same_row : p.lib.bindings ≡ with_row (row_of p.lib.bindings far)
  same_row = ap (λ hs. let o : Bindings = record p.lib.bindings { heard = hs } in o) (sym (set-get_or p.lib.bindings.heard far None))

  pub row-at : (row : Option (List (Option ℕ))) → row_of (with_row row) far ≡ row
  row-at row = get_or-set_same p.lib.bindings.heard far row None (omega (arith, below, st.rows))

  -- the session after, whose labels are the row's
  abbrev pub session_with : Option (List (Option ℕ)) → Option Open → Option Session
  session_with row x = option_map (session_in w p.me.0 (with_row row) l) x

  labels-are : (row : Option (List (Option ℕ))) (x : Option Open) → is_some row ≡ is_up (session_with row x) →
      (fec : ℕ) → is_some row ≡ true → lib.label_learned row fec ≡ session_label (session_with row x) fec
  labels-are None x up fec on = absurd (clash on)
    where
      clash : false ≡ true → ⊥
      clash g = cc
  labels-are (Some row) None up fec on = absurd (clash up)
    where
      clash : true ≡ false → ⊥
      clash g = cc
  labels-are (Some row) (Some end) up fec on = ap (λ r. slice_index_or (labels_in (length w.loopbacks) r) fec None) (sym (row-at (Some row)))

  fit-row : (row : Option (List (Option ℕ))) → ((fec : ℕ) → FitsLabel (lib.label_learned row fec)) →
      (h fec : ℕ) → FitsLabel (lib.label_learned (row_of (with_row row) h) fec)
  fit-row row fit h fec = elim (eqb_tells h far) [
    | inl q ↦ subst (λ r. FitsLabel (lib.label_learned r fec)) (sym (ap (row_of (with_row row)) q.1 ∙ row-at row)) (fit fec)
    | inr q ↦ subst (λ r. FitsLabel (lib.label_learned r fec)) (sym (get_or-set_other p.lib.bindings.heard far h row None q.1)) (st.fit h fec)
  ]

  -- what the neighbour owes then, and that no other one's row changes
  pub record IsOwedThen (tick : ℕ) (es : List LibEvent) (x : Option Open) (row : Option (List (Option ℕ))) : Type 0 where
    pub rows : length (rested_events tick p.lib.resting es).owed ≡ length p.lib.resting.owed
    pub others : (h : ℕ) → h ≢ far → rests.row_of (rested_events tick p.lib.resting es) h ≡ rests.row_of p.lib.resting h
    pub open_is : is_some (rests.row_of (rested_events tick p.lib.resting es) far) ≡ is_some row
    pub far_owes : Owes w p.me.0 (rested_events tick p.lib.resting es) (slice_set p.sessions.items l x) far

  -- the end of another neighbour stays
  other-owes : (r r' : Resting) (x : Option Open) (h : ℕ) → h ≢ far → rests.row_of r' h ≡ rests.row_of r h → Owes w p.me.0 r p.sessions.items h →
      Owes w p.me.0 r' (slice_set p.sessions.items l x) h
  other-owes r r' x h d e (Nothing none) = Nothing (e ∙ none)
  other-owes r r' x h d e (AtMost k end j at few) =
      AtMost k end j (get_or-set_other p.sessions.items l k x None (λ q. d (sym (leads w p.me.0 h k j) ∙ ap (λ i. across w i p.me.0) q)) ∙ at)
      (λ f. subst (λ o. count_in o f ≤ end.said) (sym e) (few f))

  owed-then : (tick : ℕ) (es : List LibEvent) (x : Option Open) (row : Option (List (Option ℕ))) → IsOwedThen tick es x row →
      AreOwed w p.me.0 (record { bindings = with_row row; resting = rested_events tick p.lib.resting es }) (slice_set p.sessions.items l x)
  owed-then tick es x row is = record {
    rows = is.rows ∙ st.owed.rows;
    open_is = λ h. elim (eqb_tells h far) [
      | inl q ↦ ap (λ k. is_some (rests.row_of (rested_events tick p.lib.resting es) k)) q.1 ∙ is.open_is
          ∙ sym (ap is_some (ap (row_of (with_row row)) q.1 ∙ row-at row))
      | inr q ↦ ap is_some (is.others h q.1) ∙ st.owed.open_is h ∙ sym (ap is_some (get_or-set_other p.lib.bindings.heard far h row None q.1))
    ];
    each = λ h. elim (eqb_tells h far) [
      | inl q ↦ subst (Owes w p.me.0 (rested_events tick p.lib.resting es) (slice_set p.sessions.items l x)) (sym q.1) is.far_owes
      | inr q ↦ other-owes p.lib.resting (rested_events tick p.lib.resting es) x h q.1 (is.others h q.1) (st.owed.each h)
    ];
  }

  -- the neighbour's end, where one stands there with as much said
  pub far-still : (r : Resting) (end then_end : Open) → slice_index_or p.sessions.items l None ≡ Some end → end.said ≤ then_end.said →
      ((f : ℕ) → count_in (rests.row_of r far) f ≤ count_in (rests.row_of p.lib.resting far) f) →
      (rests.row_of p.lib.resting far ≡ None → rests.row_of r far ≡ None) → Owes w p.me.0 r (slice_set p.sessions.items l (Some then_end)) far
  far-still r end then_end at said less none = by (st.owed.each far)
    where
      inside-of : (xs : List (Option Open)) (k : ℕ) (y : Open) → slice_index_or xs k None ≡ Some y → k < length xs
      inside-of [] k y e = cc
      inside-of (x ∷ xs) zero y e = omega arith
      inside-of (x ∷ xs) (suc k) y e = omega (arith, inside-of xs k y e)

      within : {a b c d e : ℕ} → a ≤ b → b ≤ c → c ≡ d → d ≤ e → a ≤ e
      within x y z v = omega (arith, x, y, z, v)

      head : (k : ℕ) → k ∷ [] ≡ l ∷ [] → k ≡ l
      head k q = cc

      said-is : (other : Open) → Some other ≡ Some end → other.said ≡ end.said
      said-is other q = cc

      by : Owes w p.me.0 p.lib.resting p.sessions.items far → Owes w p.me.0 r (slice_set p.sessions.items l (Some then_end)) far
      by (Nothing e) = Nothing (none e)
      by (AtMost k other j there_at few) =
          AtMost l then_end only (get_or-set_same p.sessions.items l (Some then_end) None (inside-of p.sessions.items l end at))
          (λ f. within (less f) (few f)
          (said-is other (sym there_at ∙ ap (λ i. slice_index_or p.sessions.items i None) (head k (sym j ∙ only)) ∙ at)) said)

  -- what happens is that this session and this row change
  pub one : (e : Event) (es : List LibEvent) (x : Option Open) (row : Option (List (Option ℕ))) (pre : List Message)
      → after_events p.lib.bindings es ≡ with_row row → changed w n e ≡ with_session n l (session_with row x) → is_some row ≡ is_up (session_with row x)
      → (is_up (session_with row x) ≡ true → is_up (session_at n l) ≡ not (opens es far)) → ((h : ℕ) → h ≢ far → opens es h ≡ false)
      → answers w n e ≡ said_on l p.me.0 pre ++ flat_map (said_by_tell w p.me.0) (releases es) → IsOwnAt w p.me.0 l x →
      ((fec : ℕ) → FitsLabel (lib.label_learned row fec)) → EventsFit p.lib.bindings es → length es ≤ 256
      → ((tick : ℕ) → rested_events tick p.lib.resting es ≡ rested_by_event w tick n e p.lib.resting)
      → ((tick : ℕ) → IsOwedThen tick es x row) → ((r : Resting) → owed_for_said w p.me.0 r (said_on l p.me.0 pre) ≡ r)
      → Happens p e p.view.counts es (slice_set p.sessions.items l x) l pre
  one e es x row pre lib_is changed_is up was off answered own fit fits short rested owes quiet = record {
    is = ap (λ b. with_ends w p.me.0 b p.view.counts (slice_set p.sessions.items l x)) lib_is
        ∙ ap (λ ss. let o : Node = record { me = p.me.0; learned = p.view.counts; sessions = ss } in
        o) (sessions-one w p.me.0 l p.lib.bindings p.sessions.items row x st.wired.joins st.wired.once st.me there at_end st.ends)
        ∙ sym changed_is;
    tied = subst (λ m. AreTied w m (after_events p.lib.bindings es)) (sym changed_is)
        (subst (AreTied w (with_session n l (session_with row x))) (sym lib_is) tied_row);
    was = λ h k h_below j on. elim (eqb_tells k l) [
      | inl q ↦
          operational-is n k ∙ ap (λ i. is_up (session_at n i)) q.1
          ∙ was (sym (ap is_up (session-there k q.1)) ∙ sym (operational-is (with_session n l (session_with row x)) k)
          ∙ ap (λ m. is_operational (knowledge_in m) k) (sym changed_is) ∙ on)
          ∙ ap (λ i. not (opens es i)) (sym (ap (λ i. across w i p.me.0) q.1) ∙ leads w p.me.0 h k j)
      | inr q ↦
          operational-is n k ∙ ap is_up (sym (get_or-set_other n.sessions l k (session_with row x) None q.1))
          ∙ sym (operational-is (with_session n l (session_with row x)) k) ∙ ap (λ m. is_operational (knowledge_in m) k) (sym changed_is) ∙ on
          ∙ sym (ap not (off h (λ same. q.1 (same_link h k j same))))
    ];
    answered = answered;
    own = own-set w p.me.0 p.sessions.items l x st.ends own;
    fit = λ h fec. subst (λ b. FitsLabel (lib.label_learned (row_of b h) fec)) (sym lib_is) (fit-row row fit h fec);
    fits = fits;
    short = short;
    rested = rested;
    owed = λ tick. subst (λ b. AreOwed w p.me.0 (record { bindings = b; resting = rested_events tick p.lib.resting es }) (slice_set p.sessions.items l x))
        (sym lib_is) (owed-then tick es x row (owes tick));
    quiet = quiet;
  }
    where
      inside : l < length n.sessions
      inside = omega (arith, there, length-sessions w p.me.0 p.lib.bindings 0 p.sessions.items, st.ends.one_each)

      tied_row : AreTied w (with_session n l (session_with row x)) (with_row row)
      tied_row = tied-one w n p.lib.bindings far l (session_with row x) row st.tied only below st.rows inside up (labels-are row x up)

      session-there : (k : ℕ) → k ≡ l → session_at (with_session n l (session_with row x)) k ≡ session_with row x
      session-there k e = ap (session_at (with_session n l (session_with row x))) e ∙ get_or-set_same n.sessions l (session_with row x) None inside

      same_link : (h k : ℕ) → joining w p.me.0 h ≡ k ∷ [] → h ≡ far → k ≡ l
      same_link h k j e = head (sym j ∙ ap (joining w p.me.0) e ∙ only)
        where
          head : k ∷ [] ≡ l ∷ [] → k ≡ l
          head g = cc

-- A session ends

clash : true ≡ false → ⊥
clash g = cc

module _ (p : Parts) (st : Stands p) (l : ℕ) (there : l < length p.view.ends) (end : Open) (is : slice_index_or p.sessions.items l None ≡ Some end) where
  ours : IsOwn (wiring_in p) p.me.0 l end.session × (l < length p.view.ends)
  ours = own-at (wiring_in p) p.me.0 p.sessions.items l end st.ends is

  pub at_end_of : is_end (wiring_in p) l p.me.0 ≡ true
  at_end_of = ours.0.at_end

  session_there : session_at (node_in p) l ≡ Some (session_in (wiring_in p) p.me.0 p.lib.bindings l end)
  session_there = session-is p st l there at_end_of ∙ ap (option_map (session_in (wiring_in p) p.me.0 p.lib.bindings l)) is

  state_there : is_open p.lib.bindings (across (wiring_in p) l p.me.0) ≡ nat_le 2 (count_by end.session.state)
  state_there = operational-at p st l there at_end_of ∙ ap is_up session_there

  none_own : IsOwnAt (wiring_in p) p.me.0 l None
  none_own x e = absurd (none e)
    where
      none : None ≡ Some x → ⊥
      none f = cc

  quiet : nat_le 2 (count_by end.session.state) ≡ false → Happens p (Closes l) p.view.counts [] (slice_set p.sessions.items l None) l []
  quiet off =
      let row_none : row_of p.lib.bindings (across (wiring_in p) l p.me.0) ≡ None = closed (row_of p.lib.bindings (across (wiring_in p) l p.me.0)) (state_there
      ∙ off) in
      one p st l there at_end_of (Closes l) [] None (row_of p.lib.bindings (across (wiring_in p) l p.me.0)) [] (same_row p st l there at_end_of) refl
      (ap is_some row_none) (λ on. absurd (clash (sym on))) (λ h d. refl) refl none_own
      (λ fec. subst (λ r. FitsLabel (lib.label_learned r fec)) (sym row_none) tt) tt (omega arith)
      (λ tick. sym (ap (λ s. rested_by_end tick s (across (wiring_in p) l p.me.0) p.lib.resting) (ap state_in session_there)
      ∙ not_ended tick end.session.state off))
      (λ tick. record {
        rows = refl;
        others = λ h d. refl;
        open_is = st.owed.open_is (across (wiring_in p) l p.me.0);
        far_owes = Nothing (unowed (rests.row_of p.lib.resting (across (wiring_in p) l p.me.0))
            (st.owed.open_is (across (wiring_in p) l p.me.0) ∙ state_there ∙ off));
      }) (λ r. refl)
    where
      not_ended : (tick : ℕ) (state : LdpState) → nat_le 2 (count_by state) ≡ false →
          rested_by_end tick (Some state) (across (wiring_in p) l p.me.0) p.lib.resting ≡ p.lib.resting
      not_ended tick Initialized f = refl
      not_ended tick OpenSent f = refl
      not_ended tick OpenRec f = refl
      not_ended tick Operational f = cc

      unowed : (o : Option (List ℕ)) → is_some o ≡ false → o ≡ None
      unowed None f = refl
      unowed (Some row) f = cc

      closed : (o : Option (List (Option ℕ))) → is_some o ≡ false → o ≡ None
      closed None f = refl
      closed (Some row) f = cc

  loud : end.session.state ≡ Operational →
      Happens p (Closes l) p.view.counts (event.Closed (record { 0 = across (wiring_in p) l p.me.0 }) ∷ []) (slice_set p.sessions.items l None) l []
  loud up =
      let on : nat_le 2 (count_by end.session.state) ≡ true = ap (λ s. nat_le 2 (count_by s)) up in
      let rows : across (wiring_in p) l p.me.0 < length p.lib.resting.owed = omega (arith, below p st l there at_end_of, st.owed.rows) in
      one p st l there at_end_of (Closes l) (event.Closed (record { 0 = across (wiring_in p) l p.me.0 }) ∷ []) None None [] refl refl refl
      (λ f. absurd (clash (sym f))) (λ h d. refl) refl none_own (λ fec. tt)
      ((omega (arith, below p st l there at_end_of, st.tied.one_each), state_there ∙ on), tt) (omega arith)
      (λ tick. sym (ap (λ s. rested_by_end tick s (across (wiring_in p) l p.me.0) p.lib.resting) (ap state_in session_there
      ∙ ap (λ s. let o : Option LdpState = Some s in o) up)))
      (λ tick. record {
        rows = length-set p.lib.resting.owed (across (wiring_in p) l p.me.0) None;
        others = λ h d. get_or-set_other p.lib.resting.owed (across (wiring_in p) l p.me.0) h None None d;
        open_is = ap is_some (get_or-set_same p.lib.resting.owed (across (wiring_in p) l p.me.0) None None rows);
        far_owes = Nothing (get_or-set_same p.lib.resting.owed (across (wiring_in p) l p.me.0) None None rows);
      }) (λ r. refl)

  by_state : (state : LdpState) → end.session.state ≡ state →
      Happens p (Closes l) p.view.counts (closing_by state (record { 0 = across (wiring_in p) l p.me.0 })) (slice_set p.sessions.items l None) l []
  by_state Initialized e = quiet (ap (λ s. nat_le 2 (count_by s)) e)
  by_state OpenSent e = quiet (ap (λ s. nat_le 2 (count_by s)) e)
  by_state OpenRec e = quiet (ap (λ s. nat_le 2 (count_by s)) e)
  by_state Operational e = loud e

  pub closing : Happens p (Closes l) p.view.counts (closing_by end.session.state (record { 0 = across (wiring_in p) l p.me.0 }))
      (slice_set p.sessions.items l None) l []
  closing = by_state end.session.state refl

  pub no_releases : (state : LdpState) (to : NodeNo) (withdrawn : ℕ) (labels : Labels) →
      MayTell (length p.loopbacks.items) p.me.0 labels withdrawn (releases (closing_by state to))
  no_releases Initialized to withdrawn labels = tt
  no_releases OpenSent to withdrawn labels = tt
  no_releases OpenRec to withdrawn labels = tt
  no_releases Operational to withdrawn labels = tt

-- the end of an open session
pub end-of : (p : Parts) (st : Stands p) (l : ℕ) (there : l < length p.view.ends) → session_at (node_in p) l ≢ None →
    (end : Open) × (slice_index_or p.sessions.items l None ≡ Some end)
end-of p st l there some = by (slice_index_or p.sessions.items l None) refl
  where
    by : (o : Option Open) → slice_index_or p.sessions.items l None ≡ o → (end : Open) × (slice_index_or p.sessions.items l None ≡ Some end)
    by None e =
        absurd (some (at-is (wiring_in p) p.me.0 p.lib.bindings p.sessions.items 0 l l (omega arith)
        ∙ ap (option_map (session_in (wiring_in p) p.me.0 p.lib.bindings l)) e))
    by (Some end) e = (end, e)

-- the events by which a session that was open closes
pub closing-as : (p : Parts) (st : Stands p) (l : ℕ) (there : l < length p.view.ends) → session_at (node_in p) l ≢ None →
    (was : Option Open) (to : NodeNo) (es : List LibEvent) → was ≡ slice_index_or p.sessions.items l None → to.0 ≡ across (wiring_in p) l p.me.0
    → es ≡ closing_events was to →
    Happens p (Closes l) p.view.counts es (slice_set p.sessions.items l None) l []
    × ((withdrawn : ℕ) (labels : Labels) → MayTell (length p.loopbacks.items) p.me.0 labels withdrawn (releases es))
closing-as p st l there some was to es was_is to_is es_is =
    let at : (end : Open) × (slice_index_or p.sessions.items l None ≡ Some end) = end-of p st l there some in
    let events_are : es ≡ closing_by at.0.session.state (record { 0 = across (wiring_in p) l p.me.0 }) =
    es_is ∙ ap (λ o. closing_events o to) (was_is ∙ at.1) ∙ ap (λ k. closing_by at.0.session.state (let o : NodeNo = record { 0 = k } in o)) to_is in (
      subst (λ xs. Happens p (Closes l) p.view.counts xs (slice_set p.sessions.items l None) l []) (sym events_are) (closing p st l there at.0 at.1),
      λ withdrawn labels. subst (λ xs. MayTell (length p.loopbacks.items) p.me.0 labels withdrawn (releases xs)) (sym events_are)
          (no_releases p st l there at.0 at.1 at.0.session.state (record { 0 = across (wiring_in p) l p.me.0 }) withdrawn labels),
    )
