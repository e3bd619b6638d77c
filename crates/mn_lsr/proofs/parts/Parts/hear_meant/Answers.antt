use Rattle.std.proofs.Common.{List, map, length, ◌++◌, ◌+◌, ◌^◌, ◌∙◌, subst, ap, sym, refl, Option, Some, slice_index_or}
use Rattle.mn_lsr.proofs.Numbers.{set-fits, as-much, said-fits, few-owed, few-still, said-more}
use Rattle.mn_labels.specs.Labels.{Labels, own_labels}
use Rattle.mn_bindings.specs.Known.{AreFew}
use Rattle.mn_lsr.specs.declared.parts.Parts.{Parts}
use Rattle.std.specs.Option.{option_to_list}
use Rattle.std.specs.List.{flat_map}
use Rattle.mn_node.specs.Ldp.{said_on}
use Rattle.mn_bindings.specs.Tells.{tells, releases}
use Rattle.mn_lsr.specs.Telling.{said_by_tell, MayTell}
use Rattle.std.specs.Prelude.{None}
use Rattle.mn_node.specs.Machine.{Event, Hears, changed, said as said_as}
use Rattle.mn_ldp_session.specs.Spelling.{Pdu, pdus}
use Rattle.mn_lsr.specs.Turns.{Kept}
use Rattle.mn_ldp_session.specs.declared.session.Session.{Session}
use Rattle.mn_lsr.specs.Message.{meaning}
use Rattle.mn_lsr.specs.Said.{pdu_of}
use Rattle.mn_lsr.specs.Replies.{replied, heard_by}
use Rattle.mn_lsr.specs.Parts.{NumbersFit, wiring_in, node_in, HasTold}
use Rattle.mn_lsr.proofs.HeardMessage.{meant-is, hearing-as, machine-heard}
use Rattle.mn_lsr.proofs.After.{Happens}
use Rattle.mn_lsr.proofs.Tail.{IsAfter, IsReplied, after-all, may-follow-then, replied-then, machines-then}
use Rattle.mn_lsr.proofs.parts.Parts.hear_meant.Goals as goal
use Rattle.mn_lsr.proofs.parts.Parts.hear_meant.Goals.{In_ok-set_session, In_ok-reply, In_ok-tell}

-- the numbers fit with the session set, and with what is replied
set_fits : (c : In_ok-set_session) → NumbersFit c.set_session.new.self.sessions.items (length c.args.out.now.items)
set_fits c =
    set-fits c.args.self.now.sessions.items c.set_session.new.self.sessions.items c.args.receipt.link.0 (length c.args.out.now.items)
    (Some (record { session = c.hear.new.self; said = c.in-Some.was.said })) c.in_ok-set_session.ensures.set
    (as-much c.args.self.now.sessions.items c.args.receipt.link.0 c.in-Some.was (sym c.session.ensures ∙ c.in-Some.is)) c.requires.numbers

reply_fits : (c : In_ok-reply) → NumbersFit c.set_session.new.self.sessions.items (length c.args.out.now.items) →
    NumbersFit c.reply.new.self.sessions.items (length c.reply.new.out.items)
reply_fits c =
    let q = c.set_session.new.self in
    said-fits (wiring_in q) q.me.0 (own_labels q.me.0 q.labels.labels) 0 q.sessions.items c.reply.new.self.sessions.items
    (said_on c.args.receipt.link.0 q.me.0 (replied c.in-Ok.reply)) c.args.out.now.items c.reply.new.out.items c.in_ok-reply.ensures.counted
    c.in_ok-reply.ensures.said

pub reply-requires-clause-numbers : goal.reply-requires-clause-numbers
reply-requires-clause-numbers c = set_fits (goal.at.reply-requires-clause-numbers c).In_ok-set_session

pub tell-requires-clause-numbers : goal.tell-requires-clause-numbers
tell-requires-clause-numbers c =
    let at = goal.at.tell-requires-clause-numbers c in
    reply_fits at.In_ok-reply (set_fits at.In_ok-set_session)

pub returns-clause-numbers : goal.returns-clause-numbers
returns-clause-numbers c =
    let at = goal.at.returns-clause-numbers c in
    let r = c.reply.new.self in
    said-fits (wiring_in r) r.me.0 (own_labels r.me.0 c.tell.new.self.labels.labels) c.args.heard.1 r.sessions.items c.tell.new.self.sessions.items
    (flat_map (said_by_tell (wiring_in r) r.me.0) (tells r.lib.bindings (option_to_list c.event_of-event.result))) c.reply.new.out.items
    c.tell.new.out.items c.in_ok-tell.ensures.counted c.in_ok-tell.ensures.said (reply_fits at.In_ok-reply (set_fits at.In_ok-set_session))

-- the end receives the message
abbrev event : In_ok-set_session → Event
event c = Hears c.args.receipt.link.0 (meaning c.args.heard.0) c.args.heard.1

happens : (c : In_ok-set_session) →
    Happens c.args.self.now (event c) c.args.self.now.view.counts (option_to_list c.event_of-event.result) c.set_session.new.self.sessions.items
    c.args.receipt.link.0
    (replied c.in-Ok.reply)
    × ((labels : Labels) → MayTell (length c.args.self.now.loopbacks.items) c.args.self.now.me.0 labels c.args.heard.1
    (releases (option_to_list c.event_of-event.result)))
happens c =
    let p = c.args.self.now in
    let l = c.args.receipt.link.0 in
    let m = meaning c.args.heard.0 in
    let label = c.args.heard.1 in
    let body = c.args.message.now.body in
    hearing-as p c.requires.stands l c.requires.there c.in-Some.was (sym c.session.ensures
    ∙ c.in-Some.is) body m label c.in-Ok.reply c.hear.new.self c.far.result
    (option_to_list c.event_of-event.result) c.set_session.new.self.sessions.items
    (meant-is (wiring_in p) body m label c.requires.lawful c.requires.meant) c.in-Ok.ensures.table c.in-Ok.ensures.ends c.far.ensures
    (c.event_of-event.ensures ∙ ap (λ b. heard_by c.far.result b m label) c.begins.ensures) c.in_ok-set_session.ensures.set

-- it has replied
said : (c : In_ok-reply) →
    IsReplied c.args.self.now c.reply.new.self c.set_session.new.self.sessions.items c.args.receipt.link.0 c.in-Ok.reply (map pdu_of c.args.out.now.items)
    (map pdu_of c.reply.new.out.items)
said c =
    replied-then c.args.self.now c.set_session.new.self c.reply.new.self c.set_session.new.self.sessions.items c.args.receipt.link.0 c.in-Ok.reply
    (map pdu_of c.args.out.now.items) (map pdu_of c.reply.new.out.items) c.set_session.ensures.others refl
    c.in_ok-reply.ensures.said c.in_ok-reply.ensures.counted c.in_ok-reply.ensures.others

-- and told what that changes
told : (c : In_ok-tell) →
    HasTold c.reply.new.self c.tell.new.self c.args.heard.1 c.args.receipt.tick (option_to_list c.event_of-event.result) (map pdu_of c.reply.new.out.items)
    (map pdu_of c.tell.new.out.items)
told c = c.in_ok-tell.ensures

done : (c : In_ok-set_session) (r : Parts) (middle : List Pdu) →
    IsReplied c.args.self.now r c.set_session.new.self.sessions.items c.args.receipt.link.0 c.in-Ok.reply (map pdu_of c.args.out.now.items) middle
    → (q : Parts) (after_it : List Pdu) → HasTold r q c.args.heard.1 c.args.receipt.tick (option_to_list c.event_of-event.result) middle after_it →
    IsAfter c.args.self.now q c.args.heard.1 c.args.receipt.tick (event c) (map pdu_of c.args.out.now.items) after_it
done c r middle said q after_it told =
    let p = c.args.self.now in
    after-all p c.requires.stands (event c) (option_to_list c.event_of-event.result) c.set_session.new.self.sessions.items c.args.receipt.link.0
    c.in-Ok.reply (happens c).0 r r.sessions q c.args.heard.1 c.args.receipt.tick (own_labels p.me.0 p.labels.labels)
    (map pdu_of c.args.out.now.items) middle after_it said.parts said.ends_are said.pdus_are told

pub tell-requires-clause-follow : goal.tell-requires-clause-follow
tell-requires-clause-follow c =
    let at = goal.at.tell-requires-clause-follow c in
    let r = said at.In_ok-reply in
    let h = happens at.In_ok-set_session in
    may-follow-then c.args.self.now c.requires.stands (event at.In_ok-set_session) (option_to_list c.event_of-event.result)
    c.set_session.new.self.sessions.items c.args.receipt.link.0
    c.in-Ok.reply h.0 c.reply.new.self c.reply.new.self.sessions c.args.heard.1 r.parts r.ends_are h.1

pub returns-clause-stands : goal.returns-clause-stands
returns-clause-stands c =
    let at = goal.at.returns-clause-stands c in
    (done at.In_ok-set_session _ _ (said at.In_ok-reply) _ _ (told at.In_ok-tell)).stands

pub returns-clause-kept : goal.returns-clause-kept
returns-clause-kept c =
    let at = goal.at.returns-clause-kept c in
    (done at.In_ok-set_session _ _ (said at.In_ok-reply) _ _ (told at.In_ok-tell)).kept

pub returns-clause-said : goal.returns-clause-said
returns-clause-said c =
    let at = goal.at.returns-clause-said c in
    let w = wiring_in c.args.self.now in
    let node = node_in c.args.self.now in
    let e = event at.In_ok-set_session in
    let done_is = done at.In_ok-set_session _ _ (said at.In_ok-reply) _ _ (told at.In_ok-tell) in
    done_is.said
    ∙ ap (λ (labels : Labels). map pdu_of c.args.out.now.items ++ pdus w (own_labels c.args.self.now.me.0 labels) c.args.heard.1 (changed w node e)
    (said_as w node e))
    (ap (λ (k : Kept). k.labels) done_is.kept)

pub returns-clause-machine : goal.returns-clause-machine
returns-clause-machine c =
    let at = goal.at.returns-clause-machine c in
    let p = c.args.self.now in
    let st = c.requires.stands in
    let l = c.args.receipt.link.0 in
    let r = said at.In_ok-reply in
    ap (λ (ms : List (Option Session)). slice_index_or ms l None)
    (machines-then p st (event at.In_ok-set_session) (option_to_list c.event_of-event.result) c.set_session.new.self.sessions.items l
    c.in-Ok.reply (happens at.In_ok-set_session).0 c.reply.new.self c.reply.new.self.sessions c.tell.new.self c.args.heard.1 c.args.receipt.tick
    (map pdu_of c.reply.new.out.items) (map pdu_of c.tell.new.out.items) r.parts r.ends_are (told at.In_ok-tell))
    ∙ machine-heard p st l c.requires.there c.in-Some.was
    (sym c.session.ensures ∙ c.in-Some.is) c.args.message.now.body c.in-Ok.reply c.hear.new.self c.set_session.new.self.sessions.items c.in-Ok.ensures.table
    c.in-Ok.ensures.ends c.in_ok-set_session.ensures.set

pub tell-requires-clause-owed : goal.tell-requires-clause-owed
tell-requires-clause-owed c =
    let p = c.args.self.now in
    let q = c.set_session.new.self in
    let n = length c.reply.new.out.items in
    subst (λ (x : Parts). AreFew (2 ^ 62 + n) x.lib.resting) (sym c.in_ok-reply.ensures.others)
    (subst (λ (x : Parts). AreFew (2 ^ 62 + n) x.lib.resting) (sym c.set_session.ensures.others)
    (few-still p (length c.args.out.now.items) n
    (said-more (wiring_in q) q.me.0 (own_labels q.me.0 q.labels.labels) 0 q.sessions.items (said_on c.args.receipt.link.0 q.me.0 (replied c.in-Ok.reply))
    c.args.out.now.items
    c.reply.new.out.items c.in_ok-reply.ensures.said)
    (few-owed p c.requires.stands (length c.args.out.now.items) c.requires.numbers)))
