use Rattle.std.proofs.Common.{ap}
use Rattle.mn_perform.proofs.Adding.{on_err, ok_then, err_then}
use Rattle.mn_perform.proofs.Closing.{labels_part, end_part, end_whole, end_framed, end_writes}
use Rattle.mn_perform.proofs.books.Books.close.Goals as goal

pub returns-in_err-put_labels-clause-part : goal.returns-in_err-put_labels-clause-part
returns-in_err-put_labels-clause-part g c = on_err c.from_residual.result _ (λ base all framed stands records.
    labels_part c.args.net.now.topology all c.args.net.now.journal c.self.inside.output c.args.self.now c.put_labels.new.output base
    (g.S.Shelf.files c.args.shelf.now) (g.S.Shelf.files c.put_labels.new.shelf) c.self.view_is c.in_err-put_labels.ensures.stays.names
    c.in_err-put_labels.ensures.stays.framed
    c.in_err-put_labels.ensures.puts.may c.requires.files framed records)

pub returns-clause-whole : goal.returns-clause-whole
returns-clause-whole g c = ok_then c.end.result _ _ c.end.ensures.kept (λ kept base all framed stands records.
    end_whole c.args.net.now.topology all c.args.net.now.journal c.self.inside.output c.args.self.now c.put_labels.new.output c.end.new.self.held base
    (g.S.Shelf.files c.args.shelf.now) (g.S.Shelf.files c.put_labels.new.shelf)
    (g.S.Shelf.files c.end.new.shelf) c.self.view_is c.in_ok-put_labels.ensures.stays.names c.in_ok-put_labels.ensures.stays.framed
    c.end.ensures.framed c.in_ok-put_labels.ensures.puts.adds (ap (λ b. b.held) c.end.ensures.ended) kept c.requires.files framed records)

pub returns-clause-part : goal.returns-clause-part
returns-clause-part g c = err_then c.end.result _ _ c.end.ensures.part (λ part base all framed stands records.
    end_part c.args.net.now.topology all c.args.net.now.journal c.self.inside.output c.args.self.now c.put_labels.new.output base
    (g.S.Shelf.files c.args.shelf.now) (g.S.Shelf.files c.put_labels.new.shelf)
    (g.S.Shelf.files c.end.new.shelf) c.self.view_is c.in_ok-put_labels.ensures.stays.names c.in_ok-put_labels.ensures.stays.framed
    c.end.ensures.framed c.in_ok-put_labels.ensures.puts.adds part c.requires.files framed records)

pub returns-clause-framed : goal.returns-clause-framed
returns-clause-framed g c =
    end_framed c.self.inside.output c.args.self.now c.put_labels.new.output (g.S.Shelf.files c.args.shelf.now) (g.S.Shelf.files c.put_labels.new.shelf)
    (g.S.Shelf.files c.end.new.shelf) c.self.view_is c.in_ok-put_labels.ensures.stays.names
    c.in_ok-put_labels.ensures.stays.framed c.end.ensures.framed

pub returns-clause-writes : goal.returns-clause-writes
returns-clause-writes g c =
    end_writes c.self.inside.output c.args.self.now c.put_labels.new.output (g.S.Shelf.files c.args.shelf.now) (g.S.Shelf.files c.put_labels.new.shelf) _ _ _
    c.end.result c.self.view_is c.in_ok-put_labels.ensures.stays.names c.in_ok-put_labels.ensures.stays.framed c.in_ok-put_labels.ensures.stays.writes
    c.end.ensures.writes
