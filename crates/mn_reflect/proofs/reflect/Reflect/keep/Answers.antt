use Rattle.std.proofs.Common.{[], ◌∙◌, ap, refl}
use Rattle.mn_reflect_telling.specs.Names.{named}
use Rattle.mn_reflect_telling.proofs.Results.{on_ok}
use Rattle.mn_reflect.specs.Doing.{with_row, mentioned_in}
use Rattle.mn_reflect.proofs.Views.{with_heard, heard_cell, rows_whole}
use Rattle.mn_reflect.proofs.reflect.Reflect.keep.Goals as goal

pub index_mut-routes-requires : goal.index_mut-routes-requires
index_mut-routes-requires c = (heard_cell c.self.view_is c.self.invariant.shape c.self.inside.heard.items refl c.from.ensures c.requires.node
    c.index_mut.ensures.value c.from-2.ensures c.requires.peer).place

pub invariant_of-self : goal.invariant_of-self
invariant_of-self c = rows_whole _ _ c.self.invariant c.args.node.0 c.args.peer.0 c.mention_in.new.routes _
    ((heard_cell c.self.view_is c.self.invariant.shape c.self.inside.heard.items refl c.from.ensures c.requires.node c.index_mut.ensures.value c.from-2.ensures
    c.requires.peer).set c.mention_in.new.routes)

pub returns : goal.returns
returns c =
    let cell = heard_cell c.self.view_is c.self.invariant.shape c.self.inside.heard.items refl c.from.ensures c.requires.node c.index_mut.ensures.value
    c.from-2.ensures c.requires.peer in
    on_ok c.mention_in.result (λ put.
    cell.put with_heard c.mention_in.new.routes
    ∙ ap (λ routes. with_row c.args.node.0 c.args.peer.0 routes c.args.self.now)
    (put ∙ ap (mentioned_in (named c.args.vrf c.args.prefix) c.args.mention) (cell.found [] c.index_mut-routes.result.now c.index_mut-routes.ensures.value)))
    c.mention_in.ensures
