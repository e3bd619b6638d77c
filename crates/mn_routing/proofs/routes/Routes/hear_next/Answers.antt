use Rattle.mn_routing.proofs.Chains.{reads_so, found_labels, answered, may_answer, hears_so}
use Rattle.mn_routing.proofs.routes.Routes.hear_next.Goals as goal

pub hear_routes-requires-clause-labels : goal.hear_routes-requires-clause-labels
hear_routes-requires-clause-labels c =
    let may = c.requires.may in
    let read =
    reads_so c.args.topology.now c.args.peer.0 c.args.edge.0 c.args.self.now may.message may.answer may.may c.take_next-bytes.result c.as_slice.result.now
    c.in_ok-message.message c.take_next-bytes.ensures.bytes c.as_slice.ensures c.in_ok-message.ensures in
    found_labels c.args.topology.now c.args.peer.0 c.args.edge.0 c.args.self.now c.take_next-bytes.new.self may.message c.in_ok-message.message
    may.answer may.may c.take_next-bytes.ensures.taken read

pub hear_session-answer-requires-clause-takes : goal.hear_session-answer-requires-clause-takes
hear_session-answer-requires-clause-takes c =
    let may = c.requires.may in (
      may.answer,
      answered c.args.topology.now c.args.peer.0 c.args.edge.0 c.args.self.now c.take_next-bytes.new.self may.message c.in_ok-message.message
          may.answer may.may c.take_next-bytes.ensures.taken
          (reads_so c.args.topology.now c.args.peer.0 c.args.edge.0 c.args.self.now may.message may.answer may.may c.take_next-bytes.result
          c.as_slice.result.now c.in_ok-message.message c.take_next-bytes.ensures.bytes c.as_slice.ensures c.in_ok-message.ensures)
          c.hear_routes.new.self c.in_ok-hear_routes.ensures,
    )

pub answer-requires : goal.answer-requires
answer-requires c =
    let may = c.requires.may in
    let read =
    reads_so c.args.topology.now c.args.peer.0 c.args.edge.0 c.args.self.now may.message may.answer may.may c.take_next-bytes.result c.as_slice.result.now
    c.in_ok-message.message c.take_next-bytes.ensures.bytes c.as_slice.ensures c.in_ok-message.ensures in
    let takes =
    answered c.args.topology.now c.args.peer.0 c.args.edge.0 c.args.self.now c.take_next-bytes.new.self may.message c.in_ok-message.message may.answer
    may.may c.take_next-bytes.ensures.taken read c.hear_routes.new.self c.in_ok-hear_routes.ensures in
    let ready =
    may_answer c.args.topology.now c.args.peer.0 c.args.edge.0 c.args.self.now c.take_next-bytes.new.self may.message c.in_ok-message.message may.answer
    may.may c.take_next-bytes.ensures.taken read c.hear_routes.new.self c.in_ok-hear_routes.ensures c.hear_session-answer.new.self
    c.hear_session-answer.result c.hear_session-answer.ensures.heard (c.hear_session-answer.ensures.answer may.answer takes) in
    record {
      has = ready.has;
      edge = c.requires.edge;
      peer = c.requires.peer;
      tick = c.requires.tick;
      numbers = c.requires.numbers;
      number = ready.below c.args.clock.number c.requires.number;
      exports = ready.exports;
      one = ready.one;
    }

pub returns-clause-hears : goal.returns-clause-hears
returns-clause-hears c = λ m answer may.
    let read =
    reads_so c.args.topology.now c.args.peer.0 c.args.edge.0 c.args.self.now m answer may c.take_next-bytes.result c.as_slice.result.now
    c.in_ok-message.message c.take_next-bytes.ensures.bytes c.as_slice.ensures c.in_ok-message.ensures in
    hears_so c.args.topology.now c.args.peer.0 c.args.edge.0 c.args.self.now c.take_next-bytes.new.self m c.in_ok-message.message answer may
    c.take_next-bytes.ensures.taken read c.hear_routes.new.self c.in_ok-hear_routes.ensures c.hear_session-answer.new.self
    c.hear_session-answer.result c.hear_session-answer.ensures.heard
    (c.hear_session-answer.ensures.answer answer
    (answered c.args.topology.now c.args.peer.0 c.args.edge.0 c.args.self.now c.take_next-bytes.new.self m c.in_ok-message.message answer may
    c.take_next-bytes.ensures.taken read c.hear_routes.new.self c.in_ok-hear_routes.ensures)) c.args.clock.tick c.args.clock.number
    c.answer.new.self c.answer.result c.answer.ensures
