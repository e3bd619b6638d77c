-- A step of one node is done in the ledger's words.
use Rattle.std.proofs.Common.{ℕ, ◌≡◌, ◌+◌, ◌-◌, ◌*◌, List, ◌++◌, length, refl, arith, sym, ◌∙◌, ap, subst, append-nil}
use Rattle.mn_wiring.specs.Wiring.{receiver}
use Rattle.mn_wiring.specs.declared.links.Dir.{Dir}
use Rattle.mn_base.specs.declared.numbers.LinkNo.{LinkNo}
use Rattle.mn_base.specs.declared.numbers.NodeNo.{NodeNo}
use Rattle.mn_flight.specs.Flying.{without, IsFlight}
use Rattle.mn_topo.specs.Network.{Network, wiring_of}
use Rattle.mn_topo.specs.Lawful.{IsLawful}
use Rattle.mn_topo.specs.declared.steps.Step.TheVariants as step
use Rattle.mn_topo.specs.declared.steps.JournalEntry.{JournalEntry}
use Rattle.mn_node.specs.Machine.{Event, Learns}
use Rattle.mn_ledger.specs.Packets.{channel}
use Rattle.mn_ledger.specs.Items.{numbered}
use Rattle.mn_ledger.specs.Ledger.{world_of}
use Rattle.mn_slice_laws.specs.Slice.{hears_next}
use Rattle.mn_timetable_laws.specs.Keys.{keys_in, keys_on, of_messages, key_without}
use Rattle.mn_timetable_laws.specs.Steps.{pushed, messages_now}
use Rattle.mn_reuse_laws.specs.Relabelled.{event_with, labels_at}
use Rattle.mn_timetable_laws.proofs.Keys.{key_taken}
use Rattle.mn_transport_laws.specs.Carried.{Carried}
use Rattle.mn_transport_laws.specs.Acting.{MayHear}
use Rattle.mn_transport_laws.specs.Doing.{LearnsNext, HearsNext, noticed, taken}
use Rattle.mn_transport_laws.specs.Stands.{IsTransport}
use Rattle.mn_transport_laws.specs.Steps.{HasTurn, MayDo, Did}
use Rattle.mn_transport_laws.proofs.Puts.{Puts}
use Rattle.mn_transport_laws.proofs.Goes.{act-rest}
use Rattle.mn_transport_laws.proofs.One.{goes-learn, goes-hear, puts-learn, puts-hear, first-notice}
use Rattle.mn_transport_laws.proofs.Dids.{then-stands, messages-are}
use Rattle.mn_transport_laws.proofs.Can.{may-hear}

module _ (t : Network) (lawful : IsLawful t) (tick number next : ℕ) (old new : Carried) where
  pub did-learn : (node : NodeNo) (l : LinkNo) (channels : ℕ) → IsFlight channels old.notices → MayDo t (step.Learn node l) old →
      LearnsNext t tick number node.0 l.0 old new next
      → Did t tick number (step.Learn node l) old new (next - number)
  did-learn node l channels flight may acts =
      let first = first-notice t lawful may.journal may.turn.inputs may.turn.lawful tick old may.stands node l may.turn.turn in
      record {
        goes = λ es stands turn. then-stands t es tick (step.Learn node l) new
            (goes-learn t lawful es turn.inputs turn.lawful tick old stands node l number new next channels flight turn.turn acts);
        notices = ap keys_in (act-rest t tick number node.0 (Learns l.0) (noticed t node.0 l.0 old) new next acts).notices
            ∙ ap (λ o. keys_in (without o old.notices)) first.1
            ∙ key_taken (l.0 * length t.loopbacks + node.0) old.notices 0 first.0 flight.ascending first.1
            ∙ sym (append-nil (key_without (l.0 * length t.loopbacks + node.0) 0 (keys_in old.notices)));
        messages =
            λ es stands turn. (puts es stands turn).keys
            ∙ ap (λ n. keys_in old.messages ++ keys_on (of_messages t) (numbered t tick n (messages_now t es (step.Learn node l)))) (no_more number);
        count = λ es stands turn. let n = (puts es stands turn).next_is in omega (arith, n);
      }
    where
      no_more : (k : ℕ) → k ≡ k + 0
      no_more k = omega arith

      puts : (es : List JournalEntry) → IsTransport t es old → HasTurn t es (step.Learn node l) →
          Puts t tick number (messages_now t es (step.Learn node l)) old.messages new.messages next
      puts es stands turn = subst (λ xs. Puts t tick number xs old.messages new.messages next)
          (sym (messages-are t es lawful (step.Learn node l) turn.turn refl))
          (puts-learn t lawful es turn.inputs turn.lawful tick old stands node l number new next turn.turn acts)

  pub did-hear : (l : LinkNo) (dir : Dir) (channels : ℕ) → IsFlight channels old.messages
      → ((event : Event) → MayHear t old l.0 dir event → HearsNext t tick number l.0 dir event old new next)
      → MayDo t (step.HearLdp l dir) old → Did t tick number (step.HearLdp l dir) old new (next - number)
  did-hear l dir channels flight hears may = record {
    goes = λ es stands turn. then-stands t es tick (step.HearLdp l dir) new
        (goes-hear t lawful es turn.inputs turn.lawful tick old stands l dir number new next channels flight turn.turn (acts es stands turn));
    notices =
        ap keys_in (act-rest t tick number (receiver (wiring_of t) l.0 dir) _ (taken l.0 dir old) new next (acts may.journal may.stands may.turn)).notices
        ∙ sym (append-nil (keys_in old.notices));
    messages = λ es stands turn.
        let can = may-hear t lawful es turn.inputs turn.lawful tick old stands l dir turn.turn in
        (puts es stands turn).keys
        ∙ ap (λ ks. ks ++ keys_on (of_messages t) (numbered t tick number (messages_now t es (step.HearLdp l dir))))
        (ap (λ o. keys_in (without o old.messages)) can.flies ∙ key_taken (channel l.0 dir) old.messages 0 can.pdu flight.ascending can.flies)
        ∙ ap (λ n. key_without (channel l.0 dir) 0 (keys_in old.messages) ++ keys_on (of_messages t)
        (numbered t tick n (messages_now t es (step.HearLdp l dir)))) (no_more number);
    count = λ es stands turn. let n = (puts es stands turn).next_is in omega (arith, n);
  }
    where
      no_more : (k : ℕ) → k ≡ k + 0
      no_more k = omega arith

      acts : (es : List JournalEntry) → IsTransport t es old → HasTurn t es (step.HearLdp l dir)
          → HearsNext t tick number l.0 dir (event_with (wiring_of t) (labels_at t (pushed es tick (step.HearLdp l dir))) (receiver (wiring_of t) l.0 dir)
          (hears_next t (world_of t es) l.0 (receiver (wiring_of t) l.0 dir))) old new next
      acts es stands turn =
          hears _ (may-hear t lawful es turn.inputs turn.lawful tick old stands l dir turn.turn)

      puts : (es : List JournalEntry) → IsTransport t es old → HasTurn t es (step.HearLdp l dir) →
          Puts t tick number (messages_now t es (step.HearLdp l dir)) (taken l.0 dir old).messages new.messages next
      puts es stands turn =
          subst (λ xs. Puts t tick number xs (taken l.0 dir old).messages new.messages next)
          (sym (messages-are t es lawful (step.HearLdp l dir) turn.turn refl))
          (puts-hear t lawful es turn.inputs turn.lawful tick old stands l dir number new next turn.turn (acts es stands turn))
