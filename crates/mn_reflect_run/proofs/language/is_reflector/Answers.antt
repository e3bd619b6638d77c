use Rattle.std.proofs.Common.{◌==◌, ◌∙◌, rules}
use Rattle.std.proofs.Common.{tests}
use Rattle.std.proofs.lemmas.Iterator.{YieldsList-from_slice}
use Rattle.std.proofs.lemmas.Iterator.Search.{any_from_yields_List}
use Rattle.mn_base.specs.declared.numbers.NodeNo.{NodeNo}
use Rattle.mn_reflect_run.proofs.Taken.{listed}
use Rattle.mn_reflect_run.proofs.language.is_reflector.Goals as goal

pub returns : goal.returns
returns c =
    any_from_yields_List (λ (other : NodeNo). other.0 == c.args.node.0) _ _ _ c.any.ensures.ran (YieldsList-from_slice c.args.reflectors.now cc)
    (λ x b q k. search (rules, tests))
    ∙ listed c.args.node.0 c.args.reflectors.now
