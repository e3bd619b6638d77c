use Rattle.std.proofs.Common.{ap, ◌∙◌, sym, subst, IfSome, ◌<◌, length}
use Rattle.std.specs.Str.{bytes_eq}
use Rattle.mn_topo.specs.Names.{number_of}
use Rattle.mn_topo.proofs.Places.{is_within}
use Rattle.mn_topo.proofs.names.Names.number_of.Goals as goal

pub returns-clause-within : goal.returns-clause-within
returns-clause-within c =
    let found = c.copied.ensures ∙ c.get.ensures.value ∙ c.self.invariant.0 c.args.name.now ∙ ap (λ names. number_of names c.args.name.now) c.self.view_is in
    subst (λ r. IfSome r (λ n. n < length c.args.self.now)) (sym found) (is_within (bytes_eq c.args.name.now) c.args.self.now)
