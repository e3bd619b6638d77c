-- A node that receives messages one after another.
use Rattle.std.proofs.Common.{ℕ, suc, ◌≡◌, ◌+◌, ◌<◌, List, ◌∷◌, ◌++◌, length, drop, refl, arith, sym, ◌∙◌, ap, subst, Option, Some, None}
use Rattle.std.specs.Prelude.{slice_index_or, option_map}
use Rattle.std.proofs.Math.Seq.{drop-cons}
use Rattle.std.proofs.lemmas.List.{append_assoc}
use Rattle.mn_wiring.specs.Wiring.{Wiring}
use Rattle.mn_ldp_wire.specs.declared.message.LdpId.{LdpId}
use Rattle.mn_ldp_wire.specs.declared.message.LdpMessage.{LdpMessage}
use Rattle.mn_ldp_session.specs.declared.refusal.SessionBad.{SessionBad}
use Rattle.mn_ldp_session.specs.declared.session.Session.{Session as Machine}
use Rattle.mn_ldp_session.specs.Table.{refusal, kind_of, then_state}
use Rattle.mn_ldp_session.specs.Spelling.{Pdu, message_in}
use Rattle.mn_lsr.specs.Turns.{Kept}
use Rattle.mn_lsr.specs.declared.parts.Open.{Open}
use Rattle.mn_lsr.specs.Hearing.{after_message, after_messages, first_refusal, Accepts, AcceptsAll, machine_then}
use Rattle.mn_lsr.specs.Parts.{machines_of}
use Rattle.mn_lsr.proofs.Sessions.{machine-at}

next : (i : ℕ) → suc i ≡ i + 1
next i = omega arith

module _ (messages : List LdpMessage) (i : ℕ) (d : LdpMessage) (below : i < length messages) where
  seam : drop i messages ≡ slice_index_or messages i d ∷ drop (i + 1) messages
  seam = drop-cons messages i d below ∙ ap (λ k. slice_index_or messages i d ∷ drop k messages) (next i)

  pub said-step : (w : Wiring) (tick l : ℕ) (n then_n : Kept) (out then_out : List Pdu) →
      then_n ≡ (after_message w tick l n (message_in w (slice_index_or messages i d).body)).kept
      → then_out ≡ out ++ (after_message w tick l n (message_in w (slice_index_or messages i d).body)).said →
      then_out ++ (after_messages w tick l then_n (drop (i + 1) messages)).said ≡ out ++ (after_messages w tick l n (drop i messages)).said
  said-step w tick l n then_n out then_out e f =
      ap (λ xs. xs ++ (after_messages w tick l then_n (drop (i + 1) messages)).said) f
      ∙ ap (λ m. (out ++ (after_message w tick l n (message_in w (slice_index_or messages i d).body)).said)
      ++ (after_messages w tick l m (drop (i + 1) messages)).said) e
      ∙ append_assoc out (after_message w tick l n (message_in w (slice_index_or messages i d).body)).said
      (after_messages w tick l (after_message w tick l n (message_in w (slice_index_or messages i d).body)).kept (drop (i + 1) messages)).said
      ∙ ap (λ ms. out ++ (after_messages w tick l n ms).said) (sym seam)

  pub node-step : (w : Wiring) (tick l : ℕ) (n then_n : Kept) → then_n ≡ (after_message w tick l n (message_in w (slice_index_or messages i d).body)).kept
      → (after_messages w tick l then_n (drop (i + 1) messages)).kept ≡ (after_messages w tick l n (drop i messages)).kept
  node-step w tick l n then_n e = ap (λ m. (after_messages w tick l m (drop (i + 1) messages)).kept) e
      ∙ ap (λ ms. (after_messages w tick l n ms).kept) (sym seam)

  both : (session : Machine) (from : LdpId) → first_refusal session from (slice_index_or messages i d ∷ drop (i + 1) messages) ≡ None
      → (refusal session from (slice_index_or messages i d).body ≡ None)
      × (first_refusal (record session { state = then_state session.state (kind_of (slice_index_or messages i d).body) }) from
      (drop (i + 1) messages) ≡ None)
  both session from e = by (refusal session from (slice_index_or messages i d).body) refl e
    where
      by : (o : Option SessionBad) → refusal session from (slice_index_or messages i d).body ≡ o
          → (let r : Option SessionBad =
          elim o [
            | Some why ↦ Some why
            | None ↦ first_refusal (record session {
              state =
                  then_state session.state (kind_of (slice_index_or messages i d).body);
            }) from (drop (i + 1) messages)
          ] in r) ≡ None
          → (refusal session from (slice_index_or messages i d).body ≡ None)
          × (first_refusal (record session { state = then_state session.state (kind_of (slice_index_or messages i d).body) }) from
          (drop (i + 1) messages) ≡ None)
      by None f g = (f, g)
      by (Some why) f g = cc

  split : (o : Option Open) (from : LdpId) → AcceptsAll (option_map (λ (e : Open). e.session) o) from (drop i messages)
      → Accepts o from (slice_index_or messages i d).body × AcceptsAll (machine_then o (slice_index_or messages i d).body) from (drop (i + 1) messages)
  split None from a = absurd a
  split (Some end) from a = let two = both end.session from (ap (first_refusal end.session from) (sym seam) ∙ a) in (two.0, two.1)

  pub accepts-one : (ends : List (Option Open)) (l : ℕ) (from : LdpId) → AcceptsAll (slice_index_or (machines_of ends) l None) from (drop i messages) →
      Accepts (slice_index_or ends l None) from (slice_index_or messages i d).body
  accepts-one ends l from a = (split (slice_index_or ends l None) from (subst (λ o. AcceptsAll o from (drop i messages)) (machine-at ends l) a)).0

  pub accepts-rest : (ends then_ends : List (Option Open)) (l : ℕ) (from : LdpId) → AcceptsAll (slice_index_or (machines_of ends) l None) from (drop i messages)
      → slice_index_or (machines_of then_ends) l None ≡ machine_then (slice_index_or ends l None) (slice_index_or messages i d).body →
      AcceptsAll (slice_index_or (machines_of then_ends) l None) from (drop (i + 1) messages)
  accepts-rest ends then_ends l from a e =
      subst (λ o. AcceptsAll o from (drop (i + 1) messages)) (sym e)
      (split (slice_index_or ends l None) from (subst (λ o. AcceptsAll o from (drop i messages)) (machine-at ends l) a)).1
