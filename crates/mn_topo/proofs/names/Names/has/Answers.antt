use Rattle.std.proofs.Common.{ap, ◌∙◌, is_some}
use Rattle.std.specs.Str.{bytes_eq}
use Rattle.mn_topo.specs.Names.{has_name}
use Rattle.mn_topo.proofs.Places.{is_found}
use Rattle.mn_topo.proofs.names.Names.has.Goals as goal

pub returns : goal.returns
returns c =
    c.contains_key.ensures ∙ ap is_some (c.self.invariant.0 c.args.name.now) ∙ is_found (bytes_eq c.args.name.now) _
    ∙ ap (λ names. has_name names c.args.name.now) c.self.view_is
