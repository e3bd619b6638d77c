use Rattle.mn_topo_toml.proofs.NameKeys.{put_name}
use Rattle.mn_topo_toml.proofs.numbered.put_name.Goals as goal

pub returns : goal.returns
returns c =
    put_name c.args.name.now c.in_ok-copy.copy c.args.names.now.keys c.insert.new.self.keys c.in_ok-copy.ensures.items c.requires c.in_ok-insert.ensures.keys
