use Rattle.std.proofs.Common.{refl}
use Rattle.mn_reflect.proofs.Views.{end_cell}
use Rattle.mn_reflect.proofs.reflect.Reflect.lives.Goals as goal

pub index-requires-2 : goal.index-requires-2
index-requires-2 c = (end_cell c.self.view_is c.self.invariant.shape c.self.inside.sessions.items refl c.from.ensures c.requires.a c.index.ensures
    c.from-2.ensures c.requires.b).place
