use Rattle.std.proofs.Common.{◌<◌, subst, sym, length}
use Rattle.mn_topo.specs.Network.{Network}
use Rattle.mn_topo.specs.Lawful.{IsLawful}
use Rattle.mn_reflect_world_laws.specs.Now.{ReflectNow}
use Rattle.mn_reflect_telling.specs.Said.{IsHeard}
use Rattle.mn_reflect.specs.Doing.{MayTurn, IsFirst}
use Rattle.mn_reflect_telling.proofs.Results.{on_ok}
use Rattle.mn_reflect.proofs.Talking.{turns_then, stays_there, hears_then, answers_then, hears_first}
use Rattle.mn_reflect.proofs.Next.{reads, other_is, routes_are, saying_then, hears_routes}
use Rattle.mn_reflect.proofs.reflect.Reflect.hear_next.Goals as goal

pub take_next-letter-requires-clause-flies : goal.take_next-letter-requires-clause-flies
take_next-letter-requires-clause-flies c = (_, c.requires.may.next.letter)

pub read-requires : goal.read-requires
read-requires c =
    let may = c.requires.may in
    let lawful = subst (λ (x : ReflectNow). IsLawful x.topology) c.self.view_is c.laws.ensures in
    reads c.args.self.now lawful c.args.peer.0 c.args.node.0 c.take_next-letter.result c.bytes.result.now c.take_next-letter.ensures.letter c.bytes.ensures
    may.labels may.word may.next

pub hear_update-requires-clause-may : goal.hear_update-requires-clause-may
hear_update-requires-clause-may c =
    subst (λ x. MayTurn x c.args.node.0) (sym c.take_next-letter.ensures.taken)
    (turns_then c.args.self.now c.args.peer.0 c.args.node.0 c.args.node.0 c.requires.may.may.turn)

pub hear_update-requires-clause-says : goal.hear_update-requires-clause-says
hear_update-requires-clause-says c =
    let may = c.requires.may in
    let lawful = subst (λ (x : ReflectNow). IsLawful x.topology) c.self.view_is c.laws.ensures in
    saying_then may.labels c.args.peer.0 c.args.node.0 c.args.self.now c.take_next-letter.new.self c.in-Routes.reflected may.word
    c.take_next-letter.ensures.taken
    (routes_are c.args.self.now lawful c.args.peer.0 c.args.node.0 c.take_next-letter.result c.bytes.result.now c.take_next-letter.ensures.letter
    c.bytes.ensures may.labels may.word may.next c.in-Routes.reflected (subst (IsHeard c.bytes.result.now) c.in-Routes.is c.in_ok-reflected.ensures))

pub hear_session-reply-requires-clause-takes : goal.hear_session-reply-requires-clause-takes
hear_session-reply-requires-clause-takes c =
    let may = c.requires.may in
    let lawful = subst (λ (x : ReflectNow). IsLawful x.topology) c.self.view_is c.laws.ensures in
    let spelled = subst (IsHeard c.bytes.result.now) c.in-Other.is c.in_ok-reflected.ensures in
    answers_then may.labels c.args.peer.0 c.args.node.0 c.args.self.now c.take_next-letter.new.self c.in-Other.message may.word c.take_next-letter.ensures.taken
    may.next
    (other_is c.args.self.now lawful c.args.peer.0 c.args.node.0 c.take_next-letter.result c.bytes.result.now c.take_next-letter.ensures.letter c.bytes.ensures
    may.labels may.word may.next c.in-Other.message spelled.0 spelled.1)

pub answer-requires : goal.answer-requires
answer-requires c =
    let may = c.requires.may in
    let lawful = subst (λ (x : ReflectNow). IsLawful x.topology) c.self.view_is c.laws.ensures in
    let spelled = subst (IsHeard c.bytes.result.now) c.in-Other.is c.in_ok-reflected.ensures in
    let its = other_is c.args.self.now lawful c.args.peer.0 c.args.node.0 c.take_next-letter.result c.bytes.result.now c.take_next-letter.ensures.letter
    c.bytes.ensures may.labels may.word may.next c.in-Other.message spelled.0 spelled.1 in
    let stays = sym (stays_there c.args.peer.0 c.args.node.0 c.args.self.now c.take_next-letter.new.self c.hear_session-reply.new.self c.in-Other.message
    may.word
    c.take_next-letter.ensures.taken its c.hear_session-reply.ensures.heard) in
    record {
      peer = subst (λ (t : Network). c.args.peer.0 < length t.loopbacks) stays c.requires.peer;
      node = subst (λ (t : Network). c.args.node.0 < length t.loopbacks) stays c.requires.node;
      may = hears_then c.args.peer.0 c.args.node.0 c.args.self.now c.take_next-letter.new.self c.hear_session-reply.new.self c.in-Other.message may.word
          c.take_next-letter.ensures.taken its c.hear_session-reply.ensures.heard may.may;
    }

pub returns-in-Routes : goal.returns-in-Routes
returns-in-Routes c = λ labels word next.
    let lawful = subst (λ (x : ReflectNow). IsLawful x.topology) c.self.view_is c.laws.ensures in
    hears_routes labels c.args.peer.0 c.args.node.0 c.args.self.now c.take_next-letter.new.self c.hear_update.new.self c.in-Routes.reflected word
    c.hear_update.result
    c.take_next-letter.ensures.taken
    (routes_are c.args.self.now lawful c.args.peer.0 c.args.node.0 c.take_next-letter.result c.bytes.result.now c.take_next-letter.ensures.letter
    c.bytes.ensures labels word next c.in-Routes.reflected (subst (IsHeard c.bytes.result.now) c.in-Routes.is c.in_ok-reflected.ensures))
    c.hear_update.ensures

pub returns : goal.returns
returns c = λ labels word next.
    let lawful = subst (λ (x : ReflectNow). IsLawful x.topology) c.self.view_is c.laws.ensures in
    let spelled = subst (IsHeard c.bytes.result.now) c.in-Other.is c.in_ok-reflected.ensures in
    let its = other_is c.args.self.now lawful c.args.peer.0 c.args.node.0 c.take_next-letter.result c.bytes.result.now c.take_next-letter.ensures.letter
    c.bytes.ensures labels word next c.in-Other.message spelled.0 spelled.1 in
    let first = subst (λ (x : ReflectNow). IsFirst x.topology c.args.peer.0 c.in-Other.message word) (sym c.take_next-letter.ensures.taken) its in
    on_ok c.answer.result
    (hears_first labels c.args.peer.0 c.args.node.0 c.args.self.now c.take_next-letter.new.self c.hear_session-reply.new.self c.answer.new.self
    c.hear_session-reply.result
    c.in-Other.message word its c.take_next-letter.ensures.taken (c.hear_session-reply.ensures.heard word first)
    (c.hear_session-reply.ensures.reply word first))
    c.answer.ensures
