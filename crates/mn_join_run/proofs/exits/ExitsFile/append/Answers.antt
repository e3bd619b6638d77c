use Rattle.std.proofs.Common.{length, ap, ◌∙◌}
use Rattle.std.proofs.lemmas.List.{length-map}
use Rattle.mn_edge.specs.Written.{texts}
use Rattle.mn_perform.proofs.Adding.{ok_then, err_then}
use Rattle.mn_join_run.proofs.Files.{one_differs, grows, grows_in_part}
use Rattle.mn_join_run.proofs.exits.ExitsFile.append.Goals as goal

pub put-requires-clause-differ : goal.put-requires-clause-differ
put-requires-clause-differ g c =
    one_differs (texts c.deref.result.now)
    (length-map c.deref.result.now _ ∙ ap length c.deref.ensures.value ∙ c.self.invariant.0)

pub returns-clause-grown : goal.returns-clause-grown
returns-clause-grown g c = ok_then c.put.result _ _ c.put.ensures.grown
    (grows (texts c.deref.result.now) (texts c.self.inside.names.items) c.self.inside.gather c.put.new.self c.args.self.now c.args.piece.now
    (g.S.Shelf.files c.args.shelf.now) (g.S.Shelf.files c.put.new.shelf) (ap texts c.deref.ensures.value) c.self.view_is
    (length-map c.self.inside.names.items _ ∙ c.self.invariant.0))

pub returns-clause-part : goal.returns-clause-part
returns-clause-part g c = err_then c.put.result _ _ c.put.ensures.part
    (grows_in_part (texts c.deref.result.now) (texts c.self.inside.names.items) c.self.inside.gather c.put.new.self c.args.self.now c.args.piece.now
    (g.S.Shelf.files c.args.shelf.now) (g.S.Shelf.files c.put.new.shelf) (ap texts c.deref.ensures.value) c.self.view_is
    (length-map c.self.inside.names.items _ ∙ c.self.invariant.0))
