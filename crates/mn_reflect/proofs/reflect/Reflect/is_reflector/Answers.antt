use Rattle.std.proofs.Common.{◌∙◌, ap}
use Rattle.mn_reflect_ledger_laws.specs.Picks.{is_reflector}
use Rattle.mn_reflect_world_laws.specs.Now.{ReflectNow}
use Rattle.mn_reflect_telling.specs.Mentions.{numbers_of}
use Rattle.mn_reflect.proofs.reflect.Reflect.is_reflector.Goals as goal

pub returns : goal.returns
returns c =
    c.is_among.ensures ∙ ap (λ nodes. is_reflector (numbers_of nodes) c.args.node.0) c.deref.ensures.value
    ∙ ap (λ (r : ReflectNow). is_reflector r.reflectors c.args.node.0) c.self.view_is
