use Rattle.std.proofs.Common.{map, length, ◌+◌, ◌^◌, sym, ap, subst, append-nil, arith, None}
use Rattle.mn_lsr.specs.declared.parts.Parts.{Parts}
use Rattle.mn_bindings.specs.Known.{AreFew}
use Rattle.std.specs.Option.{option_to_list}
use Rattle.mn_node.specs.Machine.{Closes}
use Rattle.mn_lsr.specs.declared.said.Said.{Said}
use Rattle.mn_lsr.specs.Said.{pdu_of}
use Rattle.std.proofs.Common.{List}
use Rattle.mn_lsr.proofs.Closing.{closing-as}
use Rattle.mn_lsr.proofs.Numbers.{set-fits, by-ends, few-owed}
use Rattle.mn_labels.specs.Labels.{own_labels}
use Rattle.mn_ldp_session.specs.declared.session.Reply.TheVariants as says
use Rattle.mn_lsr.proofs.Tail.{IsAfter, may-follow-then, after-all, none-before}
use Rattle.mn_lsr.specs.Turns.{Kept}
use Rattle.mn_lsr.proofs.parts.Parts.close.Goals as goal
use Rattle.mn_lsr.proofs.parts.Parts.close.Goals.{In_ok-tell}

pub tell-requires-clause-numbers : goal.tell-requires-clause-numbers
tell-requires-clause-numbers c =
    set-fits c.args.self.now.sessions.items c.set_session.new.self.sessions.items c.args.link.0
    (length c.new-out.result.items) None c.in_ok-set_session.ensures.set
    (omega arith) (by-ends c.args.self.now (length c.new-out.result.items) c.requires.numbers)

pub tell-requires-clause-follow : goal.tell-requires-clause-follow
tell-requires-clause-follow c =
    let p = c.args.self.now in
    let st = c.requires.stands in
    let l = c.args.link.0 in
    let es = option_to_list c.closing-event.result in
    let happens = closing-as p st l c.requires.there c.requires.open c.session.result c.far.result es c.session.ensures c.far.ensures c.closing-event.ensures in
    may-follow-then p st (Closes l) es _ l says.Nothing happens.0 c.set_session.new.self c.set_session.new.self.sessions 0 c.set_session.ensures.others
    c.in_ok-set_session.ensures.set (happens.1 0)

-- the node once it has told what the closed session changes
done : (c : In_ok-tell) →
    IsAfter c.args.self.now c.tell.new.self 0 c.args.tick (Closes c.args.link.0) (map pdu_of c.new-out.result.items) (map pdu_of c.tell.new.out.items)
done c =
    let p = c.args.self.now in
    let st = c.requires.stands in
    let l = c.args.link.0 in
    let es = option_to_list c.closing-event.result in
    let happens = closing-as p st l c.requires.there c.requires.open c.session.result c.far.result es c.session.ensures c.far.ensures c.closing-event.ensures in
    after-all p st (Closes l) es _ l says.Nothing happens.0 c.set_session.new.self c.set_session.new.self.sessions c.tell.new.self 0 c.args.tick
    (own_labels p.me.0 p.labels.labels)
    (map pdu_of c.new-out.result.items) (map pdu_of c.new-out.result.items)
    (map pdu_of c.tell.new.out.items) c.set_session.ensures.others c.in_ok-set_session.ensures.set (sym (append-nil (map pdu_of c.new-out.result.items)))
    c.in_ok-tell.ensures

pub returns-clause-stands : goal.returns-clause-stands
returns-clause-stands c = (done (goal.at.returns-clause-stands c).In_ok-tell).stands

pub returns-clause-node : goal.returns-clause-node
returns-clause-node c = ap (λ (k : Kept). k.node) (done (goal.at.returns-clause-node c).In_ok-tell).kept

pub returns-clause-labels : goal.returns-clause-labels
returns-clause-labels c = ap (λ (k : Kept). k.labels) (done (goal.at.returns-clause-labels c).In_ok-tell).kept

pub returns-clause-resting : goal.returns-clause-resting
returns-clause-resting c = ap (λ (k : Kept). k.resting) (done (goal.at.returns-clause-resting c).In_ok-tell).kept

pub returns-clause-said : goal.returns-clause-said
returns-clause-said c =
    none-before (map pdu_of c.new-out.result.items) (map pdu_of c.tell.new.out.items) _
    (ap (λ (xs : List Said). map pdu_of xs) c.new-out.ensures.items) (done (goal.at.returns-clause-said c).In_ok-tell).said

pub tell-requires-clause-owed : goal.tell-requires-clause-owed
tell-requires-clause-owed c =
    let q = c.set_session.new.self in
    subst (λ (x : Parts). AreFew (2 ^ 62 + length c.new-out.result.items) x.lib.resting) (sym c.set_session.ensures.others)
    (few-owed c.args.self.now c.requires.stands (length c.new-out.result.items) (by-ends c.args.self.now (length c.new-out.result.items) c.requires.numbers))
