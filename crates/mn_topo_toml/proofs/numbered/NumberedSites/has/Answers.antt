use Rattle.std.proofs.Common.{ap, ◌∙◌, sym}
use Rattle.mn_topo.specs.Names.{has_name}
use Rattle.mn_topo_toml.proofs.NameKeys.{has_mapped}
use Rattle.mn_topo_toml.proofs.numbered.NumberedSites.has.Goals as goal

pub returns : goal.returns
returns c =
    c.contains.ensures ∙ sym (has_mapped c.args.name.now c.self.inside.names.keys)
    ∙ ap (λ names. has_name names c.args.name.now) (c.self.invariant ∙ ap (λ table. table.names) c.self.view_is)
