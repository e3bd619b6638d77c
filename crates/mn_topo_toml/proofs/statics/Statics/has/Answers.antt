use Rattle.std.proofs.Common.{◌∙◌}
use Rattle.mn_topo_toml.proofs.StaticKeys.{stands_known}
use Rattle.mn_topo_toml.proofs.statics.Statics.has.Goals as goal

pub returns : goal.returns
returns c =
    c.contains.ensures
    ∙ stands_known c.args.vrf _ _ c.args.prefix c.self.inside.statics.keys _ c.self.view_is c.address.ensures.value c.length.ensures.value
