use Rattle.std.proofs.Common.{subst}
use Rattle.mn_run.specs.Jobs.{MadeIs, AreMade}
use Rattle.mn_run.proofs.Accounting.{total_told}
use Rattle.mn_run.proofs.generate.generate.Goals as goal

pub returns-in-Ok-Ok-clause-told : goal.returns-in-Ok-Ok-clause-told
returns-in-Ok-Ok-clause-told g c = λ before is.
    let are : AreMade c.args.number c.in-Ok-Ok.made = subst (MadeIs c.args.number) c.in-Ok-Ok.field-0-is c.in-Ok-Ok.ensures.answer in
    total_told c.args.number c.in-Ok-Ok.made are c.laws.ensures before (g.O.Sink.written c.run_made.new.out) c.run_made.result
    c.run_made.ensures.outcome (c.run_made.ensures.text before is)
