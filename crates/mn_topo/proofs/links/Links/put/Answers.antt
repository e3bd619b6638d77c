use Rattle.std.proofs.Common.{◌∙◌}
use Rattle.mn_topo.proofs.LinkNumbers.{put_pair, still_room}
use Rattle.mn_topo.proofs.links.Links.put.Goals as goal

pub invariant_of-self-2 : goal.invariant_of-self-2
invariant_of-self-2 c = (
  put_pair c.args.link _ _ _ c.self.inside.pairs c.insert.new.self _ _ _ _ c.self.invariant.0 c.self.view_is c.min.ensures c.max.ensures c.requires.fresh
      (c.len-number.ensures ∙ c.self.inside.links.ok.0)
      c.in_ok-insert.ensures.updates c.in_ok-reserve.ensures.items c.in_ok-push.ensures.items,
  still_room c.args.link _ _ _ _ c.self.view_is c.in_ok-reserve.ensures.items
      c.in_ok-push.ensures.items c.requires.room,
)
