use Rattle.std.proofs.Common.{◌∙◌, ap, sym}
use Rattle.mn_topo.specs.declared.steps.Step.TheVariants.{Import, Export}
use Rattle.mn_net_laws.specs.Refusal.{has_all_targets}
use Rattle.mn_net.specs.Parts.{shown}
use Rattle.mn_net.proofs.causes.has_all_targets.Goals as goal

pub returns-then-on : goal.returns-then-on
returns-then-on c =
    c.holds_all.ensures
    ∙ ap (λ on. has_all_targets c.args.topology.now (shown c.args.routes.now) (Import c.in-Import.vrf on c.in-Import.field-2)) (sym c.if-on.true)
    ∙ ap (has_all_targets c.args.topology.now (shown c.args.routes.now)) (sym c.in-Import.is)

pub returns-then-on-2 : goal.returns-then-on-2
returns-then-on-2 c =
    c.holds_all-then-on-2.ensures
    ∙ ap (λ on. has_all_targets c.args.topology.now (shown c.args.routes.now) (Export c.in-Export.vrf on c.in-Export.field-2)) (sym c.if-on-2.true)
    ∙ ap (has_all_targets c.args.topology.now (shown c.args.routes.now)) (sym c.in-Export.is)
