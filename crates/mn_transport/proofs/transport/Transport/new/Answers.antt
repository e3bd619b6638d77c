use Rattle.std.proofs.Common.{rules, ◌≡◌, List, true, length, ◌∙◌, ap, replicate}
use Rattle.mn_wiring.specs.declared.links.LinkEnds.{LinkEnds}
use Rattle.mn_transport_laws.proofs.Starts.{starts}
use Rattle.mn_transport.proofs.transport.Transport.new.Goals as goal

pub returns-clause-stands : goal.returns-clause-stands
returns-clause-stands c =
    let on : c.in_ok-switches.switches.items ≡ replicate (length c.links.result.now) true = search rules in
    starts c.args.topology.now c.laws.ensures _ c.in_ok-labels.ensures.nodes c.in_ok-labels.ensures.labels
    (c.in_ok-changes.ensures ∙ ap (λ (xs : List LinkEnds). replicate (length xs) 0) c.links.ensures)
    (on ∙ ap (λ (xs : List LinkEnds). replicate (length xs) true) c.links.ensures)
    c.in_ok-notices.ensures.items c.in_ok-messages.ensures.items
