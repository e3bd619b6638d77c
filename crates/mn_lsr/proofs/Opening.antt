-- A node whose session begins.
use Rattle.std.proofs.Common.{ℕ, ◌≡◌, ◌<◌, Bool, true, false, List, [], ◌∷◌, ◌++◌, length, refl, arith, sym, ◌∙◌, ap, subst, replicate, Option, Some, None}
use Rattle.std.specs.Prelude.{nat_le, nat_lt, is_some, slice_set, if◌then◌else◌}
use Rattle.mn_states.specs.declared.states.LdpState.TheVariants.{Initialized, OpenSent}
use Rattle.mn_wiring.specs.Wiring.{is_end, across}
use Rattle.mn_bindings.specs.Bindings.{row_of}
use Rattle.mn_bindings.specs.Bindings as lib
use Rattle.mn_node.specs.Ldp.{Initialization, said_on, state_by}
use Rattle.mn_node.specs.Node.{Session, session_at, count_by}
use Rattle.mn_node.specs.Machine.{Opens, loopback_of, with_session}
use Rattle.mn_ldp_session.specs.declared.session.Session.{Session as Machine}
use Rattle.mn_ldp_session.specs.declared.session.Reply.{Reply}
use Rattle.mn_ldp_session.specs.Table.{opened}
use Rattle.mn_lsr.specs.declared.parts.Open.{Open}
use Rattle.mn_lsr.specs.declared.parts.Parts.{Parts}
use Rattle.mn_lsr.specs.Standing.{labels_in}
use Rattle.mn_lsr.specs.Replies.{replied, first_reply}
use Rattle.mn_releases.specs.Rests.{Resting}
use Rattle.mn_releases.specs.Rests as rests
use Rattle.mn_lsr.specs.Turns.{owed_for_said}
use Rattle.mn_lsr.specs.Parts.{FitsLabel, Nothing, wiring_in, node_in, Stands}
use Rattle.mn_lsr.proofs.Changing.{is_up}
use Rattle.mn_lsr.proofs.Closing.{same_row, row-at, operational-at, one}
use Rattle.mn_lsr.proofs.After.{Happens}

clash : false ≡ true → ⊥
clash g = cc

state-is : (active : Bool) → state_by active 0 ≡ (if active then OpenSent else Initialized)
state-is true = refl
state-is false = refl

not_up : (active : Bool) → nat_le 2 (count_by (if active then OpenSent else Initialized)) ≡ false
not_up true = refl
not_up false = refl

first_said : (l me : ℕ) (active : Bool) →
    (if active then said_on l me (Initialization ∷ []) else []) ≡ said_on l me (replied (first_reply (if active then OpenSent else Initialized))) ++ []
first_said l me true = refl
first_said l me false = refl

module _ (p : Parts) (st : Stands p) (l : ℕ) (there : l < length p.view.ends) (at_end : is_end (wiring_in p) l p.me.0 ≡ true)
    (closed : session_at (node_in p) l ≡ None) where
  abbrev active : Bool
  active = nat_lt (loopback_of (wiring_in p) (across (wiring_in p) l p.me.0)) (loopback_of (wiring_in p) p.me.0)

  abbrev end : Open
  end = record { session = opened (loopback_of (wiring_in p) p.me.0) (loopback_of (wiring_in p) (across (wiring_in p) l p.me.0)); said = 0 }

  row_none : row_of p.lib.bindings (across (wiring_in p) l p.me.0) ≡ None
  row_none = none (row_of p.lib.bindings (across (wiring_in p) l p.me.0)) (operational-at p st l there at_end ∙ ap is_up closed)
    where
      none : (o : Option (List (Option ℕ))) → is_some o ≡ false → o ≡ None
      none None f = refl
      none (Some row) f = cc

  begins : Happens p (Opens l) p.view.counts [] (slice_set p.sessions.items l (Some end)) l (replied (first_reply end.session.state))
  begins =
      one p st l there at_end (Opens l) [] (Some end) (row_of p.lib.bindings (across (wiring_in p) l p.me.0)) (replied (first_reply end.session.state))
      (same_row p st l there at_end)
      (ap (λ s. with_session (node_in p) l (let o : Option Session =
      Some (record { state = s; said = 0; labels = replicate (length p.loopbacks.items) None }) in o)) (state-is active)
      ∙ ap (λ r. with_session (node_in p) l (let o : Option Session =
      Some (record { state = if active then OpenSent else Initialized; said = 0; labels = labels_in (length p.loopbacks.items) r }) in o))
      (sym (row-at p st l there at_end (row_of p.lib.bindings (across (wiring_in p) l p.me.0)) ∙ row_none)))
      (ap is_some row_none ∙ sym (not_up active)) (λ on. absurd (clash (sym (not_up active) ∙ on))) (λ h d. refl) (first_said l p.me.0 active)
      (λ x e. record { at_end = at_end; me_is = sym (ap (λ (m : Machine). m.me) (same e)); peer_is = sym (ap (λ (m : Machine). m.peer) (same e)) })
      (λ fec. subst (λ r. FitsLabel (lib.label_learned r fec)) (sym row_none) tt) tt (omega arith) (λ tick. refl)
      (λ tick. record {
        rows = refl;
        others = λ h d. refl;
        open_is = st.owed.open_is (across (wiring_in p) l p.me.0);
        far_owes = Nothing (unowed (rests.row_of p.lib.resting (across (wiring_in p) l p.me.0))
            (st.owed.open_is (across (wiring_in p) l p.me.0) ∙ ap is_some row_none));
      }) (λ r. no_withdraw l p.me.0 active r)
    where
      unowed : (o : Option (List ℕ)) → is_some o ≡ false → o ≡ None
      unowed None f = refl
      unowed (Some row) f = cc

      no_withdraw : (l me : ℕ) (active : Bool) (r : Resting) →
          owed_for_said (wiring_in p) me r (said_on l me (replied (first_reply (if active then OpenSent else Initialized)))) ≡ r
      no_withdraw l me true r = refl
      no_withdraw l me false r = refl

      same : {x y : Open} → Some x ≡ Some y → x.session ≡ y.session
      same e = cc

  pub opening : (machine : Machine) (me peer : ℕ) (reply : Reply) → machine ≡ opened me peer → me ≡ loopback_of (wiring_in p) p.me.0 →
      peer ≡ loopback_of (wiring_in p) (across (wiring_in p) l p.me.0) → reply ≡ first_reply machine.state
      → Happens p (Opens l) p.view.counts [] (slice_set p.sessions.items l (Some (record { session = machine; said = 0 }))) l (replied reply)
  opening machine me peer reply e f g r =
      let is : machine ≡ end.session = e ∙ ap (λ a. opened a peer) f ∙ ap (opened (loopback_of (wiring_in p) p.me.0)) g in
      subst (λ y. Happens p (Opens l) p.view.counts [] (slice_set p.sessions.items l (Some (record { session = machine; said = 0 }))) l (replied y)) (sym r)
      (subst (λ m. Happens p (Opens l) p.view.counts [] (slice_set p.sessions.items l (Some (record { session = m; said = 0 }))) l
      (replied (first_reply m.state))) (sym is) begins)
