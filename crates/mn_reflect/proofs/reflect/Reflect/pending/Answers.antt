use Rattle.std.proofs.Common.{◌∙◌, ap, length}
use Rattle.mn_reflect_ledger_laws.specs.World.{world_of}
use Rattle.mn_reflect_world_laws.specs.Labels.{labels_of}
use Rattle.mn_reflect_world_laws.specs.Now.{ReflectNow}
use Rattle.mn_reflect.proofs.Reading.{as_many}
use Rattle.mn_reflect.proofs.reflect.Reflect.pending.Goals as goal

pub returns : goal.returns
returns c = λ topology reflectors steps stands.
    c.len.ensures ∙ ap (λ (now : ReflectNow). length now.mail.letters) c.self.view_is
    ∙ as_many topology reflectors (labels_of topology steps) (world_of topology reflectors steps).flying c.args.self.now.mail.letters stands.0.letters
