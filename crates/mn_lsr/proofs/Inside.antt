-- What a node says and receives inside the network.
use Rattle.std.proofs.Common.{ℕ, suc, ◌≡◌, ◌+◌, ◌<◌, ◌≤◌, Bool, true, false, List, [], ◌∷◌, ◌++◌, length, refl, arith, sym, ◌∙◌, ap, subst, append-nil}
use Rattle.std.proofs.Common.{Option, Some, None, Ok, Result}
use Rattle.std.specs.Prelude.{◌%◌, ◌&&◌, if◌then◌else◌, ⊤}
use Rattle.std.specs.List.{flat_map}
use Rattle.std.proofs.lemmas.List.{length-map}
use Rattle.std.proofs.lemmas.List.FromFn.{length-range_with_len}
use Rattle.mn_wiring.specs.Wiring.{Wiring, across, nodes_of}
use Rattle.mn_states.specs.declared.states.LdpState.{LdpState}
use Rattle.mn_states.specs.declared.states.LdpState.TheVariants.{Initialized, OpenSent, OpenRec, Operational}
use Rattle.mn_ldp_wire.specs.declared.message.LdpBody.{LdpBody}
use Rattle.mn_ldp_wire.specs.Message.{PduContents}
use Rattle.mn_ldp_wire.specs.Grammar.{written}
use Rattle.mn_ldp_session.specs.Table.{refusal}
use Rattle.mn_ldp_session.specs.Spelling.{Pdu, pdus, pdu_in_network, withdrawn_by, body_of, id_of, count_of, one_said, label_with, AreSpelled, SpeaksOfNode}
use Rattle.mn_ldp_session.specs.Spelling.{IsHeardAsSaid}
use Rattle.mn_ldp_session.proofs.Hearable.{heard_as_said}
use Rattle.mn_node.specs.Ldp.{Message, Initialization, KeepAlive, Address, Mapping, Withdraw, Release, Said, said_on, answer, Knowledge, is_operational}
use Rattle.mn_node.specs.Ldp.{mention, mentioned_on, mentioned_from, offered, offers, by_neighbour, news}
use Rattle.mn_node.specs.Node.{Session, Node, session_at, knowledge_in}
use Rattle.mn_lsr.specs.Turns.{Kept}
use Rattle.mn_node.specs.Machine.{Event, Learns, Opens, Closes, Hears, loopback_of, speaks_first, changed, answers, answer_in, said}
use Rattle.mn_lsr.proofs.Ids.{written_low}
use Rattle.mn_lsr.specs.Hearing.{Heard, after_bytes, after_read, after_tried, after_message, session_over}
use Rattle.mn_lsr.specs.declared.refusal.LsrBad.{LsrBad}
use Rattle.mn_lsr.specs.InNetwork.{Labelling, IsHeardInside, SpeakOfNodes, label_withdrawn, pdus_in_network, SpeaksInside, IsHeardAsOne, MayBeHeard}

-- 1. What is sent, a message at a time

-- a Release is of the label that is withdrawn
abbrev IsReleased : Wiring → Labelling → ℕ → ℕ → ℕ → Message → Type 0
IsReleased w given me withdrawn l (Release fec) = withdrawn ≡ given (across w l me) fec
IsReleased w given me withdrawn l _ = ⊤

-- it speaks of a node, too
abbrev IsInside : Wiring → Labelling → ℕ → ℕ → Said → Type 0
IsInside w given me withdrawn x = SpeaksOfNode w x.message × IsReleased w given me withdrawn x.link x.message

abbrev AreInside : Wiring → Labelling → ℕ → ℕ → List Said → Type 0
AreInside w given me withdrawn [] = ⊤
AreInside w given me withdrawn (x ∷ xs) = IsInside w given me withdrawn x × AreInside w given me withdrawn xs

inside-append : (w : Wiring) (given : Labelling) (me withdrawn : ℕ) (xs ys : List Said) → AreInside w given me withdrawn xs →
    AreInside w given me withdrawn ys →
    AreInside w given me withdrawn (xs ++ ys)
inside-append w given me withdrawn [] ys h g = g
inside-append w given me withdrawn (x ∷ xs) ys h g = (h.0, inside-append w given me withdrawn xs ys h.1 g)

-- 2. News

module _ (w : Wiring) (given : Labelling) (before after : Knowledge) (me withdrawn : ℕ) where
  of-mention : (b was is : Bool) (fec l : ℕ) → fec < length w.loopbacks → AreInside w given me withdrawn (if b then said_on l me (mention was is fec) else [])
  of-mention false was is fec l h = tt
  of-mention true true true fec l h = tt
  of-mention true false false fec l h = tt
  of-mention true false true fec l h = ((h, tt), tt)
  of-mention true true false fec l h = ((h, tt), tt)

  of-links : (fec : ℕ) (was is : Bool) (ls : List ℕ) → fec < length w.loopbacks →
      AreInside w given me withdrawn (flat_map (mentioned_on before after me fec was is) ls)
  of-links fec was is [] h = tt
  of-links fec was is (l ∷ ls) h =
      inside-append w given me withdrawn (mentioned_on before after me fec was is l) (flat_map (mentioned_on before after me fec was is) ls)
      (of-mention (is_operational after l) (is_operational before l && was) is fec l h) (of-links fec was is ls h)

  of-fecs : (ls : List ℕ) (fec : ℕ) (weres ares : List Bool) → fec + length ares ≤ length w.loopbacks →
      AreInside w given me withdrawn (mentioned_from before after me ls fec weres ares)
  of-fecs ls fec [] ares h = tt
  of-fecs ls fec (was ∷ weres) [] h = tt
  of-fecs ls fec (was ∷ weres) (is ∷ ares) h =
      inside-append w given me withdrawn (flat_map (mentioned_on before after me fec was is) ls) (mentioned_from before after me ls (fec + 1) weres ares)
      (of-links fec was is ls (first (length ares) h)) (of-fecs ls (fec + 1) weres ares (rest (length ares) h))
    where
      first : (n : ℕ) → fec + suc n ≤ length w.loopbacks → fec < length w.loopbacks
      first n h = omega (arith, h)

      rest : (n : ℕ) → fec + suc n ≤ length w.loopbacks → fec + 1 + n ≤ length w.loopbacks
      rest n h = omega (arith, h)

  of-news : AreInside w given me withdrawn (news w before after me)
  unfolding news
  of-news =
      of-fecs (by_neighbour w me) 0 (offered w before me) (offered w after me)
      (as_many (length (offered w after me)) (length-map (nodes_of w) (offers w after me) ∙ length-range_with_len 0 (length w.loopbacks)))
    where
      as_many : (n : ℕ) → n ≡ length w.loopbacks → 0 + n ≤ length w.loopbacks
      as_many n e = omega (arith, e)

-- 3. Answers

of-first : (w : Wiring) (given : Labelling) (me l : ℕ) (b : Bool) → AreInside w given me 0 (if b then said_on l me (Initialization ∷ []) else [])
of-first w given me l true = ((tt, tt), tt)
of-first w given me l false = tt

of-answer : (w : Wiring) (given : Labelling) (me l : ℕ) (state : LdpState) (message : Message) → SpeaksOfNode w message →
    AreInside w given me (label_with (given (across w l me)) message) (said_on l me (answer state message))
of-answer w given me l Initialized Initialization h = ((tt, tt), ((tt, tt), tt))
of-answer w given me l OpenSent Initialization h = ((tt, tt), tt)
of-answer w given me l OpenRec Initialization h = tt
of-answer w given me l Operational Initialization h = tt
of-answer w given me l Initialized KeepAlive h = tt
of-answer w given me l OpenSent KeepAlive h = tt
of-answer w given me l OpenRec KeepAlive h = ((tt, tt), tt)
of-answer w given me l Operational KeepAlive h = tt
of-answer w given me l Initialized Address h = tt
of-answer w given me l OpenSent Address h = tt
of-answer w given me l OpenRec Address h = tt
of-answer w given me l Operational Address h = tt
of-answer w given me l Initialized (Mapping fec) h = tt
of-answer w given me l OpenSent (Mapping fec) h = tt
of-answer w given me l OpenRec (Mapping fec) h = tt
of-answer w given me l Operational (Mapping fec) h = tt
of-answer w given me l Initialized (Withdraw fec) h = ((h, refl), tt)
of-answer w given me l OpenSent (Withdraw fec) h = ((h, refl), tt)
of-answer w given me l OpenRec (Withdraw fec) h = ((h, refl), tt)
of-answer w given me l Operational (Withdraw fec) h = ((h, refl), tt)
of-answer w given me l Initialized (Release fec) h = tt
of-answer w given me l OpenSent (Release fec) h = tt
of-answer w given me l OpenRec (Release fec) h = tt
of-answer w given me l Operational (Release fec) h = tt

of-answers : (w : Wiring) (given : Labelling) (n : Node) (e : Event) → IsHeardInside w given n e → AreInside w given n.me (label_withdrawn e) (answers w n e)
of-answers w given n (Learns l) h = tt
of-answers w given n (Opens l) h = of-first w given n.me l (speaks_first w l n.me)
of-answers w given n (Closes l) h = tt
of-answers w given n (Hears l message label) h =
    subst (λ k. AreInside w given n.me k (said_on l n.me (answer_in (session_at n l) message))) (sym h.1) (by (session_at n l))
  where
    by : (s : Option Session) → AreInside w given n.me (label_with (given (across w l n.me)) message) (said_on l n.me (answer_in s message))
    by None = tt
    by (Some s) = of-answer w given n.me l s.state message h.0

are-inside : (w : Wiring) (given : Labelling) (n : Node) (e : Event) → IsHeardInside w given n e → AreInside w given n.me (label_withdrawn e) (said w n e)
are-inside w given n e h =
    inside-append w given n.me (label_withdrawn e) (answers w n e) (news w (knowledge_in n) (knowledge_in (changed w n e)) n.me) (of-answers w given n e h)
    (of-news w given (knowledge_in n) (knowledge_in (changed w n e)) n.me (label_withdrawn e))

-- 4. How it looks

nodes-of : (w : Wiring) (given : Labelling) (me withdrawn : ℕ) (xs : List Said) → AreInside w given me withdrawn xs → SpeakOfNodes w xs
nodes-of w given me withdrawn [] h = tt
nodes-of w given me withdrawn (x ∷ xs) h = (h.0.0, nodes-of w given me withdrawn xs h.1)

same-body : (w : Wiring) (given : Labelling) (me l withdrawn : ℕ) (message : Message) → IsReleased w given me withdrawn l message →
    body_of w me (given me) (across w l me) withdrawn message
    ≡ body_of w me (given me) (across w l me) (withdrawn_by (given (across w l me)) message) message
same-body w given me l withdrawn Initialization h = refl
same-body w given me l withdrawn KeepAlive h = refl
same-body w given me l withdrawn Address h = refl
same-body w given me l withdrawn (Mapping fec) h = refl
same-body w given me l withdrawn (Withdraw fec) h = refl
same-body w given me l withdrawn (Release fec) h = ap (λ k. body_of w me (given me) (across w l me) k (Release fec)) h

looks-alike : (w : Wiring) (given : Labelling) (withdrawn : ℕ) (n : Node) (xs : List Said) → AreInside w given n.me withdrawn xs →
    pdus w (given n.me) withdrawn n xs ≡ pdus_in_network w given n xs
looks-alike w given withdrawn n [] h = refl
looks-alike w given withdrawn n (x ∷ xs) h =
    ap (λ (body : LdpBody). (let o : Pdu =
    record { link = x.link; bytes = written (id_of w n.me) (record { id = count_of (session_at n x.link) + 1; body = body }) } in
    o) ∷ pdus w (given n.me) withdrawn (one_said n x.link) xs) (same-body w given n.me x.link withdrawn x.message h.0.1)
    ∙ ap (λ ps. pdu_in_network w x.link n.me (given n.me) (given (across w x.link n.me)) (count_of (session_at n x.link) + 1) x.message ∷ ps)
    (looks-alike w given withdrawn (one_said n x.link) xs h.1)

me-stays : (w : Wiring) (n : Node) (e : Event) → (changed w n e).me ≡ n.me
me-stays w n (Learns l) = refl
me-stays w n (Opens l) = refl
me-stays w n (Closes l) = refl
me-stays w n (Hears l message label) = refl

pub speaks : (w : Wiring) (given : Labelling) (n : Node) (e : Event) → IsHeardInside w given n e → SpeaksInside w given n e
speaks w given n e h = record {
  nodes = nodes-of w given n.me (label_withdrawn e) (said w n e) (are-inside w given n e h);
  looks = ap (λ me. pdus w (given me) (label_withdrawn e) (changed w n e) (said w n e)) (sym (me-stays w n e))
      ∙ looks-alike w given (label_withdrawn e) (changed w n e) (said w n e)
      (subst (λ me. AreInside w given me (label_withdrawn e) (said w n e)) (sym (me-stays w n e)) (are-inside w given n e h));
}

-- 5. How it is received

pub heard : (w : Wiring) (given : Labelling) (tick l far id : ℕ) (message : Message) (k : Kept) (s : Session) → AreSpelled w →
    MayBeHeard w given l far message k.node s → IsHeardAsOne w given tick l far id message k s
heard w given tick l far id message k s spelled may =
    ap (λ to. after_bytes w tick l k s
    (written (id_of w far) (record { id = id; body = body_of w far (given far) to (withdrawn_by (given k.node.me) message) message })))
    may.this_end
    ∙ ap (after_bytes w tick l k s) (sym (written_low (id_of w far) body id))
    ∙ ap (after_read w tick l k (session_over w l k.node.me s)) is.read
    ∙ ap (after_tried w tick l k pdu) (ap (λ o. elim o [ Some why ↦ Some why | None ↦ None ]) accepted)
    ∙ ap (λ (o : Option (Message × ℕ)). let r : Result Heard LsrBad =
    Ok (record { kept = (after_message w tick l k o).kept; said = (after_message w tick l k o).said ++ [] }) in r) is.meaning
    ∙ ap (λ (ps : List Pdu). let r : Result Heard LsrBad =
    Ok (record { kept = (after_message w tick l k (Some (message, label_with (given far) message))).kept; said = ps }) in r)
    (append-nil (after_message w tick l k (Some (message, label_with (given far) message))).said)
  where
    body : LdpBody
    body = body_of w far (given far) k.node.me (withdrawn_by (given k.node.me) message) message

    is : IsHeardAsSaid w far k.node.me (given far) (given k.node.me) (id % 4294967296) message
    is = heard_as_said w spelled (given far) (given k.node.me) far k.node.me (id % 4294967296) message may.far_is_node may.me (omega arith) may.of_node may.its

    pdu : PduContents
    pdu = record { from = id_of w far; messages = record { id = id % 4294967296; body = body } ∷ [] }

    accepted : refusal (session_over w l k.node.me s) (id_of w far) body ≡ None
    accepted =
        ap (λ a. refusal (record { me = loopback_of w k.node.me; peer = loopback_of w a; state = s.state }) (id_of w far) body) may.other_end
        ∙ is.accepted s.state may.row
