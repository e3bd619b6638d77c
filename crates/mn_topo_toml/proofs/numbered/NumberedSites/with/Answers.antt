use Rattle.std.proofs.Common.{ap, ◌∙◌, sym, ◌++◌, ◌∷◌, []}
use Rattle.mn_topo.specs.Names.{has_name}
use Rattle.mn_topo_toml.proofs.numbered.NumberedSites.with.Goals as goal

pub put_name-requires : goal.put_name-requires
put_name-requires c =
    ap (λ names. has_name names c.args.name.now) (c.self.invariant ∙ ap (λ table. table.names) c.self.view_is) ∙ c.requires.fresh

pub invariant_of-result : goal.invariant_of-result
invariant_of-result c =
    c.in_ok-put_name.ensures ∙ ap (λ names. names ++ c.args.name.now ∷ []) c.self.invariant ∙ sym (ap (λ table. table.names) c.in_ok-put.ensures)
