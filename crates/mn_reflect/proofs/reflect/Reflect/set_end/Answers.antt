use Rattle.std.proofs.Common.{refl}
use Rattle.mn_reflect.proofs.Views.{with_sessions, end_cell, ends_whole}
use Rattle.mn_reflect.proofs.reflect.Reflect.set_end.Goals as goal

pub index_mut-requires-2 : goal.index_mut-requires-2
index_mut-requires-2 c = (end_cell c.self.view_is c.self.invariant.shape c.self.inside.sessions.items refl c.from.ensures c.requires.node
    c.index_mut.ensures.value c.from-2.ensures c.requires.peer).place

pub invariant_of-self : goal.invariant_of-self
invariant_of-self c = ends_whole _ _ c.self.invariant c.args.node.0 c.args.peer.0 c.args.end _
    ((end_cell c.self.view_is c.self.invariant.shape c.self.inside.sessions.items refl c.from.ensures c.requires.node c.index_mut.ensures.value c.from-2.ensures
    c.requires.peer).set c.args.end)

pub returns : goal.returns
returns c = (end_cell c.self.view_is c.self.invariant.shape c.self.inside.sessions.items refl c.from.ensures c.requires.node c.index_mut.ensures.value
    c.from-2.ensures c.requires.peer).put with_sessions c.args.end
