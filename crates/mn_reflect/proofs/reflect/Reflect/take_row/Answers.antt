use Rattle.std.proofs.Common.{◌∙◌, ap, refl}
use Rattle.mn_reflect.specs.Doing.{with_row}
use Rattle.mn_reflect.proofs.Views.{with_heard, heard_cell, rows_whole}
use Rattle.mn_reflect.proofs.reflect.Reflect.take_row.Goals as goal

pub index_mut-requires-2 : goal.index_mut-requires-2
index_mut-requires-2 c = (heard_cell c.self.view_is c.self.invariant.shape c.self.inside.heard.items refl c.from.ensures c.requires.node
    c.index_mut.ensures.value c.from-2.ensures c.requires.peer).place

pub invariant_of-self : goal.invariant_of-self
invariant_of-self c = rows_whole _ _ c.self.invariant c.args.node.0 c.args.peer.0 c.replace.new.dest _
    ((heard_cell c.self.view_is c.self.invariant.shape c.self.inside.heard.items refl c.from.ensures c.requires.node c.index_mut.ensures.value c.from-2.ensures
    c.requires.peer).set c.replace.new.dest)

pub returns-clause-left : goal.returns-clause-left
returns-clause-left c =
    (heard_cell c.self.view_is c.self.invariant.shape c.self.inside.heard.items refl c.from.ensures c.requires.node c.index_mut.ensures.value c.from-2.ensures
    c.requires.peer).put with_heard c.replace.new.dest
    ∙ ap (λ routes. with_row c.args.node.0 c.args.peer.0 routes c.args.self.now) (c.replace.ensures.after ∙ c.new-none.ensures)
