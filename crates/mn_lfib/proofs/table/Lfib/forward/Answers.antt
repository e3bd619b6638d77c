use Rattle.std.proofs.Common.{◌-◌, ap, ◌∙◌, sym, arith, Some, None}
use Rattle.mn_lfib.specs.declared.answer.Use.TheVariants.{Fec, Site, Ended}
use Rattle.mn_lfib.specs.Forwarding.{by_use}
use Rattle.mn_lfib.proofs.Cases.{expired, alive, carried-top, one-hop}
use Rattle.mn_lfib.proofs.table.Lfib.forward.Goals as goal

pub returns-then-top-le1-clause-cases : goal.returns-then-top-le1-clause-cases
returns-then-top-le1-clause-cases c = sym (expired c.args.self.now c.args.frame.now c.top-top.result c.top-top.ensures.top c.if-top-le1.true)

pub returns-in-None-clause-cases : goal.returns-in-None-clause-cases
returns-in-None-clause-cases c =
    sym (alive c.args.self.now c.args.frame.now c.top-top.result None c.top-top.ensures.top (omega arith) (sym c.in-None.ensures.used))

pub returns-in-Some-Ended-clause-cases : goal.returns-in-Some-Ended-clause-cases
returns-in-Some-Ended-clause-cases c =
    sym (alive c.args.self.now c.args.frame.now c.top-top.result (Some Ended) c.top-top.ensures.top (omega arith) (cc (c.in-Some-Ended.ensures.used)))

pub returns-in-Some-Fec-clause-cases : goal.returns-in-Some-Fec-clause-cases
returns-in-Some-Fec-clause-cases c =
    let used = Some (Fec c.in-Some-Fec.next_hop c.in-Some-Fec.label) in
    c.to_next_hop.ensures.cases
    ∙ ap (λ b. by_use used b (c.top-top.result.ttl - 1) c.args.frame.now) (sym c.top-top.ensures.bottom)
    ∙ sym (alive c.args.self.now c.args.frame.now c.top-top.result used c.top-top.ensures.top (omega arith) (cc (c.in-Some-Fec.ensures.used)))

pub returns-in-Some-Site-clause-cases : goal.returns-in-Some-Site-clause-cases
returns-in-Some-Site-clause-cases c =
    let used = Some (Site c.in-Some-Site.site) in
    c.to_site.ensures.cases
    ∙ ap (λ b. by_use used b (c.top-top.result.ttl - 1) c.args.frame.now) (sym c.top-top.ensures.bottom)
    ∙ sym (alive c.args.self.now c.args.frame.now c.top-top.result used c.top-top.ensures.top (omega arith) (cc (c.in-Some-Site.ensures.used)))

pub returns-in-Some-Fec-clause-one_hop : goal.returns-in-Some-Fec-clause-one_hop
returns-in-Some-Fec-clause-one_hop c =
    let carried = carried-top c.args.frame.now c.top-top.result c.top-top.ensures.top in
    one-hop c.args.frame.now c.to_next_hop.result c.to_next_hop.new.frame (c.top-top.result.ttl - 1) (omega arith) (omega arith) c.to_next_hop.ensures.leaves

pub returns-in-Some-Site-clause-one_hop : goal.returns-in-Some-Site-clause-one_hop
returns-in-Some-Site-clause-one_hop c =
    let carried = carried-top c.args.frame.now c.top-top.result c.top-top.ensures.top in
    one-hop c.args.frame.now c.to_site.result c.to_site.new.frame (c.top-top.result.ttl - 1) (omega arith) (omega arith) c.to_site.ensures.leaves
