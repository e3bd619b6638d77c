use Rattle.std.proofs.Common.{◌∙◌, ap}
use Rattle.mn_reflect_world_laws.specs.Now.{ReflectNow}
use Rattle.mn_reflect_telling.specs.Mentions.{numbers_of}
use Rattle.mn_reflect.proofs.reflect.Reflect.teller.Goals as goal

pub returns-clause-topology : goal.returns-clause-topology
returns-clause-topology c = ap (λ (r : ReflectNow). r.topology) c.self.view_is

pub returns-clause-reflectors : goal.returns-clause-reflectors
returns-clause-reflectors c = ap numbers_of c.deref.ensures.value ∙ ap (λ (r : ReflectNow). r.reflectors) c.self.view_is
