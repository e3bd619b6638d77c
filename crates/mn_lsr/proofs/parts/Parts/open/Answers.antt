use Rattle.std.proofs.Common.{ℕ, List, map, length, arith, ◌∙◌, ap, Some}
use Rattle.mn_lsr.proofs.Numbers.{set-fits, by-ends}
use Rattle.mn_node.specs.Machine.{Opens, loopback_of}
use Rattle.mn_lsr.specs.declared.said.Said.{Said}
use Rattle.mn_lsr.specs.Said.{pdu_of}
use Rattle.mn_labels.specs.Labels.{own_labels}
use Rattle.mn_lsr.specs.Parts.{wiring_in}
use Rattle.mn_lsr.proofs.Opening.{opening}
use Rattle.mn_lsr.proofs.Tail.{IsAfter, after-said, replied-then, none-before}
use Rattle.mn_lsr.specs.Turns.{Kept}
use Rattle.mn_lsr.proofs.parts.Parts.open.Goals as goal
use Rattle.mn_lsr.proofs.parts.Parts.open.Goals.{In_ok-reply}

pub reply-requires-clause-numbers : goal.reply-requires-clause-numbers
reply-requires-clause-numbers c =
    set-fits c.args.self.now.sessions.items c.set_session.new.self.sessions.items c.args.link.0 (length c.new-out.result.items)
    (Some (record { session = c.open-session.result; said = 0 })) c.in_ok-set_session.ensures.set (omega arith)
    (by-ends c.args.self.now (length c.new-out.result.items) c.requires.numbers)

-- the node once it has sent what a session that begins says
done : (c : In_ok-reply) (tick : ℕ) →
    IsAfter c.args.self.now c.reply.new.self 0 tick (Opens c.args.link.0) (map pdu_of c.new-out.result.items) (map pdu_of c.reply.new.out.items)
done c tick =
    let p = c.args.self.now in
    let st = c.requires.stands in
    let l = c.args.link.0 in
    let happens =
    opening p st l c.requires.there c.requires.at_end c.requires.closed c.open-session.result c.loopback-me.result c.loopback-peer.result
    c.first_reply.result c.open-session.ensures c.loopback-me.ensures
    (c.loopback-peer.ensures ∙ ap (loopback_of (wiring_in p)) c.far-far.ensures) c.first_reply.ensures in
    let said =
    replied-then p c.set_session.new.self c.reply.new.self _ l c.first_reply.result (map pdu_of c.new-out.result.items)
    (map pdu_of c.reply.new.out.items) c.set_session.ensures.others c.in_ok-set_session.ensures.set
    c.in_ok-reply.ensures.said c.in_ok-reply.ensures.counted c.in_ok-reply.ensures.others in
    after-said p st (Opens l) _ l c.first_reply.result happens c.reply.new.self 0 tick (own_labels p.me.0 p.labels.labels) (map pdu_of c.new-out.result.items)
    (map pdu_of c.reply.new.out.items) said.parts said.ends_are said.pdus_are

pub returns-clause-stands : goal.returns-clause-stands
returns-clause-stands c = (done (goal.at.returns-clause-stands c).In_ok-reply 0).stands

pub returns-clause-node : goal.returns-clause-node
returns-clause-node c = ap (λ (k : Kept). k.node) (done (goal.at.returns-clause-node c).In_ok-reply 0).kept

pub returns-clause-labels : goal.returns-clause-labels
returns-clause-labels c = λ tick. ap (λ (k : Kept). k.labels) (done (goal.at.returns-clause-labels c).In_ok-reply tick).kept

pub returns-clause-resting : goal.returns-clause-resting
returns-clause-resting c = λ tick. ap (λ (k : Kept). k.resting) (done (goal.at.returns-clause-resting c).In_ok-reply tick).kept

pub returns-clause-said : goal.returns-clause-said
returns-clause-said c =
    none-before (map pdu_of c.new-out.result.items) (map pdu_of c.reply.new.out.items) _
    (ap (λ (xs : List Said). map pdu_of xs) c.new-out.ensures.items) (done (goal.at.returns-clause-said c).In_ok-reply 0).said
