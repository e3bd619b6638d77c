use Rattle.mn_topo_toml.proofs.StaticKeys.{put_static}
use Rattle.mn_topo_toml.proofs.statics.Statics.put.Goals as goal

pub returns : goal.returns
returns c =
    put_static c.args.vrf _ _ c.args.prefix c.self.inside.statics.keys c.insert.new.self.keys _ c.self.view_is c.address.ensures.value
    c.length.ensures.value c.requires c.in_ok-insert.ensures.keys
