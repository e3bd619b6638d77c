use Rattle.std.proofs.Common.{◌≡◌, ◌∙◌, ap, sym, subst, true}
use Rattle.mn_topo.specs.Steps.{fits}
use Rattle.mn_ledger.specs.Refusal.{agree}
use Rattle.mn_net.specs.Parts.{seen_in}
use Rattle.mn_net.proofs.Counts.{ends_there, switch_at}
use Rattle.mn_net_laws.specs.Refusal.{is_so}
use Rattle.mn_net.proofs.causes.is_so.Goals as goal

pub lives-requires : goal.lives-requires
lives-requires c =
    let at =
    ends_there c.args.topology.now c.laws.ensures c.requires.sizes c.in-BgpUp.a.0 c.in-BgpUp.b.0
    (subst (λ s. fits c.args.topology.now s ≡ true) c.in-BgpUp.is c.requires.fits) in
    record { edge = at.0; peer = at.1 }

pub lives-requires-in-BgpDown : goal.lives-requires-in-BgpDown
lives-requires-in-BgpDown c =
    let at =
    ends_there c.args.topology.now c.laws.ensures c.requires.sizes c.in-BgpDown.a.0 c.in-BgpDown.b.0
    (subst (λ s. fits c.args.topology.now s ≡ true) c.in-BgpDown.is c.requires.fits) in
    record { edge = at.0; peer = at.1 }

pub returns-in-LdpAdmin : goal.returns-in-LdpAdmin
returns-in-LdpAdmin c = λ moving tally made steps.
    c.agree.ensures
    ∙ ap (agree c.in-LdpAdmin.on) (switch_at c.args.transport.now.switches c.in-LdpAdmin.link.0 c.ldp_on.result c.ldp_on.ensures)
    ∙ ap (is_so c.args.topology.now (seen_in c.args.transport.now c.args.routes.now moving tally made steps)) (sym c.in-LdpAdmin.is)

pub returns-in-Import : goal.returns-in-Import
returns-in-Import c = λ moving tally made steps.
    c.agree-in-Import.ensures ∙ ap (agree c.in-Import.on) c.has_target.ensures
    ∙ ap (is_so c.args.topology.now (seen_in c.args.transport.now c.args.routes.now moving tally made steps)) (sym c.in-Import.is)

pub returns-in-Export : goal.returns-in-Export
returns-in-Export c = λ moving tally made steps.
    c.agree-in-Export.ensures ∙ ap (agree c.in-Export.on) c.has_target-in-Export.ensures
    ∙ ap (is_so c.args.topology.now (seen_in c.args.transport.now c.args.routes.now moving tally made steps)) (sym c.in-Export.is)
