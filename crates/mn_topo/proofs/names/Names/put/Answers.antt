use Rattle.std.proofs.Common.{◌∙◌}
use Rattle.mn_topo.proofs.NameNumbers.{put_name}
use Rattle.mn_topo.proofs.names.Names.put.Goals as goal

pub invariant_of-self-2 : goal.invariant_of-self-2
invariant_of-self-2 c =
    put_name c.args.name.now c.in_ok-copy.copy c.in_ok-key.key _ c.self.inside.numbers c.insert.new.self _ _ _ _ c.in_ok-copy.ensures.items
    c.in_ok-key.ensures.items
    c.self.invariant.0 c.self.view_is c.requires.fresh (c.len-number.ensures ∙ c.self.inside.names.ok.0)
    c.in_ok-insert.ensures.updates c.in_ok-reserve.ensures.items c.in_ok-push.ensures.items c.requires.room
