use Rattle.std.proofs.Common.{ℕ, ◌≡◌, ◌∙◌, ◌<◌, ◌*◌, arith, ap, sym, subst, length, false, Some, None}
use Rattle.std.specs.Option.{option_copied}
use Rattle.mn_flight.specs.Earliest.{earliest}
use Rattle.mn_timetable_laws.specs.Keys.{key_of}
use Rattle.mn_net_laws.specs.Coming.{learns_on, as_coming}
use Rattle.mn_net.proofs.Counts.{as_many_nodes}
use Rattle.mn_net.proofs.Nexts.{news_by, news_none, first_on, first_part}
use Rattle.mn_net.proofs.coming.notice_coming.Goals as goal

pub returns-in_err-item : goal.returns-in_err-item
returns-in_err-item c =
    c.from_residual.ensures
    ∙ news_none (learns_on (length c.args.topology.now.loopbacks)) c.args.limit c.args.transport.now.notices
    (ap (earliest c.args.limit) (sym c.notices.ensures) ∙ sym c.earliest.ensures.value ∙ ap option_copied c.in_err-item.was)

pub overflow_cast-link : goal.overflow_cast-link
overflow_cast-link c =
    let same : length c.nodes.result.now ≡ length c.args.topology.now.loopbacks = ap length c.nodes.ensures ∙ as_many_nodes c.args.topology.now.loopbacks in
    let on : c.in_ok-item.item.now.channel < length c.args.topology.now.links * length c.args.topology.now.loopbacks =
    first_on (length c.args.topology.now.links * length c.args.topology.now.loopbacks) c.args.limit c.args.transport.now.notices c.in_ok-item.item.now
    c.requires
    (ap (earliest c.args.limit) (sym c.notices.ensures) ∙ sym c.earliest.ensures.value ∙ ap option_copied c.in_ok-item.was) in
    let link = first_part c.in_ok-item.item.now.channel (length c.args.topology.now.links) (length c.nodes.result.now)
    (subst (λ n. c.in_ok-item.item.now.channel < length c.args.topology.now.links * n) (sym same) on) in
    omega (arith, link, c.laws.ensures.few_links)

pub returns : goal.returns
returns c =
    ap (λ n. Some (as_coming (learns_on n) (λ number. false) (key_of c.in_ok-item.item.now)))
    (ap length c.nodes.ensures ∙ as_many_nodes c.args.topology.now.loopbacks)
    ∙ news_by (learns_on (length c.args.topology.now.loopbacks)) c.args.limit c.args.transport.now.notices c.in_ok-item.item.now
    (ap (earliest c.args.limit) (sym c.notices.ensures) ∙ sym c.earliest.ensures.value ∙ ap option_copied c.in_ok-item.was)
