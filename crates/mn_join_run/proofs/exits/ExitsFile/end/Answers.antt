use Rattle.std.proofs.Common.{[], length, ap, ◌∙◌}
use Rattle.std.proofs.lemmas.List.{length-map}
use Rattle.mn_edge.specs.Written.{texts}
use Rattle.mn_perform.proofs.Adding.{ok_then, err_then}
use Rattle.mn_join_run.proofs.Files.{one_differs, ends_whole, ends_in_part}
use Rattle.mn_join_run.proofs.exits.ExitsFile.end.Goals as goal

pub end-requires-clause-differ : goal.end-requires-clause-differ
end-requires-clause-differ g c =
    one_differs (texts c.deref.result.now)
    (length-map c.deref.result.now _ ∙ ap length c.deref.ensures.value ∙ c.self.invariant.0)

pub returns-clause-whole : goal.returns-clause-whole
returns-clause-whole g c = ok_then c.end.result _ _ c.end.ensures.kept (λ kept bytes m.
    ends_whole (texts c.deref.result.now) (texts c.self.inside.names.items) c.self.inside.gather c.end.new.self c.args.self.now []
    (g.S.Shelf.files c.args.shelf.now) (g.S.Shelf.files c.end.new.shelf) (ap texts c.deref.ensures.value) c.self.view_is
    (length-map c.self.inside.names.items _ ∙ c.self.invariant.0) m c.end.ensures.ended kept c.end.ensures.framed bytes)

pub returns-clause-part : goal.returns-clause-part
returns-clause-part g c = err_then c.end.result _ _ c.end.ensures.part
    (ends_in_part (texts c.deref.result.now) (texts c.self.inside.names.items) c.self.inside.gather c.end.new.self c.args.self.now []
    (g.S.Shelf.files c.args.shelf.now) (g.S.Shelf.files c.end.new.shelf) (ap texts c.deref.ensures.value) c.self.view_is
    (length-map c.self.inside.names.items _ ∙ c.self.invariant.0))
