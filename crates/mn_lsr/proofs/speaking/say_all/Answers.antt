use Rattle.std.proofs.Common.{ℕ, ◌≡◌, ◌∙◌, ◌++◌, ◌∷◌, [], ap, map, length, List, slice_index_or}
use Rattle.std.specs.List.{flat_map}
use Rattle.mn_wiring.specs.Wiring.{Wiring, joining}
use Rattle.mn_node.specs.Ldp.{Message, said_on}
use Rattle.mn_bindings.specs.declared.event.Tell.{Tell}
use Rattle.mn_bindings.specs.declared.event.TellKind.TheVariants.{Map}
use Rattle.mn_lsr.specs.declared.parts.Open.{Open}
use Rattle.std.proofs.Common.{Option}
use Rattle.mn_lsr.specs.Message.{meaning}
use Rattle.mn_lsr.specs.Telling.{said_by_tell, message_of}
use Rattle.mn_labels.specs.Labels.{own_labels}
use Rattle.mn_lsr.specs.Said.{pdu_of}
use Rattle.mn_lsr.specs.Parts.{pdus_by, ends_after}
use Rattle.mn_lsr.proofs.Numbers.{said-fits}
use Rattle.mn_lsr.proofs.Saying.{said-one, ends-one, may-rest, length-ends_after}
use Rattle.mn_lsr.proofs.speaking.say_all.Goals as goal

pub loop-tell-preserved : goal.loop-tell-preserved
loop-tell-preserved c =
    let w : Wiring = record { loopbacks = c.args.speaker.now.loopbacks.now; ends = c.args.speaker.now.ends.now } in
    let me : ℕ = c.args.speaker.now.me.0 in
    let own : ℕ → ℕ = own_labels me c.args.speaker.now.labels.now.labels in
    let tells : List Tell = c.args.tells.now in
    let i : ℕ = c.loop-tell.tell-index in
    let none : Tell = record { to = record { 0 = 0 }; kind = Map; fec = record { 0 = 0 } } in
    let tell : Tell = slice_index_or tells i none in
    let meant : meaning c.message_of-message.result ≡ message_of tell.kind tell.fec.0 = c.message_of-message.ensures.meaning in
    let counted : c.say_to.new.sessions.items ≡ ends_after c.loop-tell.sessions.items (said_by_tell w me tell) =
    c.in_ok-say_to.ensures.counted
    ∙ ap (λ (m : Message). ends_after c.loop-tell.sessions.items (flat_map (λ l. said_on l me (m ∷ [])) (joining w me tell.to.0))) meant in
    let said : map pdu_of c.say_to.new.out.items ≡ map pdu_of c.loop-tell.out.items ++ pdus_by w me own c.args.speaker.now.withdrawn c.loop-tell.sessions.items
    (said_by_tell w me tell) =
    c.in_ok-say_to.ensures.said
    ∙ ap (λ (m : Message). map pdu_of c.loop-tell.out.items ++ pdus_by w me own c.args.speaker.now.withdrawn c.loop-tell.sessions.items
    (flat_map (λ l. said_on l me (m ∷ [])) (joining w me tell.to.0))) meant in
    record {
      said = said-one w me own c.args.speaker.now.withdrawn (said_by_tell w me) tells i none c.loop-tell-test.true (map pdu_of c.loop-tell.out.items)
          (map pdu_of c.say_to.new.out.items) c.loop-tell.sessions.items c.say_to.new.sessions.items counted said
          ∙ c.loop-tell.invariant.said;
      counted =
          ends-one w me own c.args.speaker.now.withdrawn (said_by_tell w me) tells i none c.loop-tell-test.true c.loop-tell.sessions.items
          c.say_to.new.sessions.items
          counted ∙ c.loop-tell.invariant.counted;
      one_each =
          ap (λ (es : List (Option Open)). length es) counted ∙ length-ends_after c.loop-tell.sessions.items (said_by_tell w me tell)
          ∙ c.loop-tell.invariant.one_each;
      numbers = said-fits w me own c.args.speaker.now.withdrawn c.loop-tell.sessions.items c.say_to.new.sessions.items (said_by_tell w me tell)
          c.loop-tell.out.items
          c.say_to.new.out.items counted said c.loop-tell.invariant.numbers;
      may = may-rest (length c.args.speaker.now.loopbacks.now) me c.args.speaker.now.withdrawn c.args.speaker.now.labels.now.labels tells i none
          c.loop-tell-test.true c.loop-tell.invariant.may;
    }
