use Rattle.std.proofs.Common.{◌≡◌, ◌∙◌, arith, ap, sym}
use Rattle.std.specs.Prelude.{nat_le, slice_index}
use Rattle.mn_net.specs.Parts.{asked_in}
use Rattle.mn_net.proofs.Counts.{none_left}
use Rattle.mn_net_laws.specs.Refusal.{has_given_all}
use Rattle.mn_net.proofs.causes.has_given_all.Goals as goal

pub returns-in-Attach : goal.returns-in-Attach
returns-in-Attach c =
    let long = c.requires.fecs c.home_of-node.result.0 c.node.result.now c.node.ensures in
    none_left c.args.transport.now.nodes c.home_of-node.result.0 c.node.result.now c.labels.result.now.labels c.next.result c.is_none.result
    c.node.ensures c.labels.ensures.value (omega (arith, long, c.home_of-node.ensures.there)) c.is_none.ensures c.next.ensures.few c.next.ensures.spent
    ∙ ap (λ n. nat_le 1048560 (slice_index (asked_in c.args.transport.now) n)) c.home_of-node.ensures.home
    ∙ ap (has_given_all c.args.topology.now (asked_in c.args.transport.now)) (sym c.in-Attach.is)
