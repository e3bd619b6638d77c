use Rattle.std.proofs.Common.{sym, ap, ◌∙◌}
use Rattle.mn_topo.specs.Network.{Network}
use Rattle.mn_ledger.specs.Ledger.{world_of}
use Rattle.mn_frame_laws.specs.Given.{given}
use Rattle.mn_output_laws.specs.Tables.{held_in}
use Rattle.mn_report.proofs.Showing.{by_default, by_resolved, by_none}
use Rattle.mn_report.proofs.routes.shown_of.Goals as goal

pub returns-then-not-resolve : goal.returns-then-not-resolve
returns-then-not-resolve c = λ are route best prefix_is source_is.
    by_default c.args.net.now.topology (world_of c.args.net.now.topology c.args.net.now.journal) (given c.args.net.now.topology c.args.net.now.journal)
    c.args.vrf.0 (held_in c.args.net.now.topology (world_of c.args.net.now.topology c.args.net.now.journal) c.args.vrf.0) c.args.prefix
    (ap (λ (t : Network). t.resolve) (sym c.topology.ensures) ∙ sym c.resolve.ensures ∙ c.if-not-resolve.true) route best prefix_is c.args.source source_is

pub returns-in-Some : goal.returns-in-Some
returns-in-Some c = λ are route best prefix_is source_is.
    by_resolved c.args.net.now.topology (world_of c.args.net.now.topology c.args.net.now.journal) (given c.args.net.now.topology c.args.net.now.journal)
    c.args.vrf.0 (held_in c.args.net.now.topology (world_of c.args.net.now.topology c.args.net.now.journal) c.args.vrf.0) c.args.prefix
    (ap (λ (t : Network). t.resolve) (sym c.topology.ensures) ∙ sym c.resolve.ensures ∙ c.if-not-resolve.false) c.in-Some.source
    (sym c.in-Some.is ∙ c.resolved_at.ensures are)

pub returns-in-None : goal.returns-in-None
returns-in-None c = λ are route best prefix_is source_is.
    by_none c.args.net.now.topology (world_of c.args.net.now.topology c.args.net.now.journal) (given c.args.net.now.topology c.args.net.now.journal)
    c.args.vrf.0 (held_in c.args.net.now.topology (world_of c.args.net.now.topology c.args.net.now.journal) c.args.vrf.0) c.args.prefix
    (ap (λ (t : Network). t.resolve) (sym c.topology.ensures) ∙ sym c.resolve.ensures ∙ c.if-not-resolve.false)
    (sym c.in-None.is ∙ c.resolved_at.ensures are) route best prefix_is c.args.source source_is
