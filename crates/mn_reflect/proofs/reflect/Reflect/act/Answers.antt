use Rattle.mn_topo.specs.declared.steps.Step.TheVariants as step
use Rattle.mn_reflect.proofs.Arms.{acts_as}
use Rattle.mn_reflect.proofs.reflect.Reflect.act.Goals as goal

pub returns-in-Export : goal.returns-in-Export
returns-in-Export c = λ labels word heard.
    acts_as labels word c.args.self.now c.set_export.new.self c.args.step.now (step.Export c.in-Export.vrf c.in-Export.on c.in-Export.target)
    c.set_export.result
    c.in-Export.is c.set_export.ensures
