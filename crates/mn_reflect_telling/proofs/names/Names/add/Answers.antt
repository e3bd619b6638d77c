use Rattle.std.proofs.Common.{◌∙◌, ap, map, refl}
use Rattle.std.specs.Map.{values_of}
use Rattle.mn_base.specs.Ordered.{with_one}
use Rattle.mn_by_key_laws.proofs.ByKey.{with_put, kept_put}
use Rattle.mn_reflect_ledger_laws.specs.Words.{key_before}
use Rattle.mn_reflect_telling.specs.Names.{key_in}
use Rattle.mn_reflect_telling.proofs.ByName.{names_go, keys_with}
use Rattle.mn_reflect_telling.proofs.names.Names.add.Goals as goal

pub invariant_of-self-2 : goal.invariant_of-self-2
invariant_of-self-2 c =
    rw (c.in_ok-insert.ensures.entries)
    (kept_put names_go c.self.inside.by_name.entries (c.args.name.vrf.0, c.args.name.prefix) c.args.name refl c.self.invariant)

pub returns : goal.returns
returns c =
    rw (c.in_ok-insert.ensures.entries)
    (ap (map key_in) (with_put names_go c.self.inside.by_name.entries (c.args.name.vrf.0, c.args.name.prefix) c.args.name refl c.self.invariant)
    ∙ keys_with c.args.name (values_of c.self.inside.by_name.entries)
    ∙ ap (with_one key_before (key_in c.args.name)) c.self.view_is)
