use Rattle.std.proofs.Common.{◌∙◌, ap, refl, sym, Some, None}
use Rattle.std.proofs.lemmas.Option.{same_Some}
use Rattle.mn_bgp_session.specs.Table.{after_message}
use Rattle.mn_reflect_world_laws.specs.Goes.{end_in}
use Rattle.mn_reflect.specs.Doing.{with_end, state_of_word, next_of}
use Rattle.mn_reflect.proofs.Hearing.{it_becomes, one_word}
use Rattle.mn_reflect.proofs.Views.{with_sessions, end_cell, ends_whole}
use Rattle.mn_reflect.proofs.reflect.Reflect.hear_session.Goals as goal

pub invariant_of-self : goal.invariant_of-self
invariant_of-self c = ends_whole _ _ c.self.invariant c.args.node.0 c.args.peer.0 (Some c.hear.new.self) _
    ((end_cell c.self.view_is c.self.invariant.shape c.self.inside.sessions.items refl c.from.ensures c.requires.node c.index_mut.ensures.value c.from-2.ensures
    c.requires.peer).set (Some c.hear.new.self))

pub returns-clause-heard : goal.returns-clause-heard
returns-clause-heard c = λ word is.
    let cell = end_cell c.self.view_is c.self.invariant.shape c.self.inside.sessions.items refl c.from.ensures c.requires.node c.index_mut.ensures.value
    c.from-2.ensures c.requires.peer in
    let t = c.args.self.now.topology in
    let takes = c.requires.takes in
    let same = one_word t c.args.peer.0 c.args.message.now takes.word word takes.first is in
    let old = same_Some c.in-Some.end (end_in t c.args.node.0 c.args.peer.0 (state_of_word takes.word))
    (sym c.in-Some.is ∙ cell.found None c.index_mut-2.result.now c.index_mut-2.ensures.value ∙ takes.turn) in
    cell.put with_sessions (Some c.hear.new.self)
    ∙ ap (λ end. with_end c.args.node.0 c.args.peer.0 (Some end) c.args.self.now)
    (c.hear.ensures.after ∙ ap (λ s. after_message s c.args.message.now) old
    ∙ it_becomes t c.args.node.0 c.args.peer.0 c.args.message.now takes.word takes.first
    ∙ ap (λ x. end_in t c.args.node.0 c.args.peer.0 (next_of x)) same)
