use Rattle.std.proofs.Common.{[], ◌∙◌, sym, subst, refl}
use Rattle.mn_edge.specs.Faults.{CountedUnless}
use Rattle.mn_edge.specs.FaultLaws.{counted_told}
use Rattle.mn_edge.specs.Kept.{Lacking}
use Rattle.mn_edge.specs.KeptLaws.{begun-there}
use Rattle.mn_edge.specs.Laid.{begun_part}
use Rattle.mn_edge.specs.Written.{Stands, texts}
use Rattle.mn_output_laws.specs.Contents.{output}
use Rattle.mn_perform.proofs.Adding.{on_err, ok_then, err_then, framed_then}
use Rattle.mn_perform.proofs.Closing.{names_of_output, framed_begun, heads_hold, heads_part}
use Rattle.mn_perform.proofs.books.begin.Goals as goal

pub returns-in_err-begin_all-clause-part : goal.returns-in_err-begin_all-clause-part
returns-in_err-begin_all-clause-part g c = on_err c.from_residual.result _ (λ m is folder capture entries named_so.
    let few = c.in_err-begin_all.ensures.part m is in
    begun_part (texts c.names.result.now) (output folder c.args.topology.now capture entries) m _ few.0
    (names_of_output folder c.args.topology.now capture entries ∙ sym (c.names.ensures ∙ named_so)) few.1)

pub returns-clause-held : goal.returns-clause-held
returns-clause-held g c = ok_then c.put_heads.result _ _ (c.put_heads.ensures.puts c.requires.files).adds (λ adds m is capture.
    heads_hold c.args.topology.now capture c.args.output.now c.put_heads.new.output m _ _ c.requires.fresh.0 c.requires.fresh.1
    (subst (λ n. Stands n [] m (g.S.Shelf.files c.begin_all.new.shelf)) c.names.ensures (c.in_ok-begin_all.ensures.begun m is)) adds)

pub returns-clause-framed : goal.returns-clause-framed
returns-clause-framed g c = ok_then c.put_heads.result _ _ (c.put_heads.ensures.puts c.requires.files).adds (λ adds.
    framed_then c.args.output.now.names c.args.output.now.names (g.S.Shelf.files c.args.shelf.now) (g.S.Shelf.files c.begin_all.new.shelf)
    (g.S.Shelf.files c.put_heads.new.shelf) refl
    (framed_begun c.args.output.now.names (g.S.Shelf.files c.args.shelf.now) (g.S.Shelf.files c.begin_all.new.shelf) c.in_ok-begin_all.ensures.silent
    (λ m is. subst (λ n. Stands n [] m (g.S.Shelf.files c.begin_all.new.shelf)) c.names.ensures (c.in_ok-begin_all.ensures.begun m is)))
    c.put_heads.ensures.stays.framed)

pub returns-clause-part : goal.returns-clause-part
returns-clause-part g c = err_then c.put_heads.result _ _ (c.put_heads.ensures.puts c.requires.files).may (λ may m is folder capture entries named_so.
    heads_part folder c.args.topology.now capture entries c.args.output.now c.put_heads.new.output m _ _ c.requires.fresh.0 named_so
    c.put_heads.ensures.stays.names
    c.requires.fresh.1 (subst (λ n. Stands n [] m (g.S.Shelf.files c.begin_all.new.shelf)) c.names.ensures (c.in_ok-begin_all.ensures.begun m is))
    c.put_heads.ensures.stays.framed may)

pub returns-clause-writes : goal.returns-clause-writes
returns-clause-writes g c =
    counted_told (g.S.Shelf.files c.args.shelf.now) (Lacking c.args.output.now.names (g.S.Shelf.files c.begin_all.new.shelf)) _ _ c.put_heads.result
    (λ none. (g.met.S.Shelf.told c.args.shelf.now none).1)
    (λ m is lacking. lacking (begun-there c.args.output.now.names m (g.S.Shelf.files c.begin_all.new.shelf)
    (subst (λ n. Stands n [] m (g.S.Shelf.files c.begin_all.new.shelf)) c.names.ensures (c.in_ok-begin_all.ensures.begun m is))))
    (subst (λ n. CountedUnless (Lacking c.args.output.now.names (g.S.Shelf.files c.begin_all.new.shelf)) n
    (g.S.Shelf.write_faults c.put_heads.new.shelf) c.put_heads.result) c.in_ok-begin_all.ensures.writes c.put_heads.ensures.stays.writes)
