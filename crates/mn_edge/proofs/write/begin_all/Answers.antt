use Rattle.std.proofs.Common.{◌<◌, [], length, ◌∙◌, subst}
use Rattle.std.proofs.lemmas.List.{take_all, length-map}
use Rattle.mn_edge.specs.Written.{Stands, texts}
use Rattle.mn_edge.proofs.Laying.{begun, name_at, few_begun}
use Rattle.mn_edge.proofs.Results.{on_err}
use Rattle.mn_edge.proofs.write.begin_all.Goals as goal

pub returns-in_err-begin-clause-part : goal.returns-in_err-begin-clause-part
returns-in_err-begin-clause-part g c = on_err c.from_residual.result _ (λ m is.
    let within : c.loop-name.name-index < length (texts c.args.names.now) = rw length-map c.loop-name-test.true in
    let at = name_at c.args.names.now c.loop-name.name-index c.name-item.result c.as_str.result.now c.loop-name-test.true c.name-item.is
    c.as_str.ensures.value in
    few_begun (texts c.args.names.now) m c.loop-name.name-index c.as_str.result.now _ within at
    (c.in_err-begin.ensures.refused _ (c.loop-name.invariant.begun m is)))

pub loop-name-preserved : goal.loop-name-preserved
loop-name-preserved g c = record {
  begun = λ m is.
      let at = name_at c.args.names.now c.loop-name.name-index c.name-item.result c.as_str.result.now c.loop-name-test.true c.name-item.is
      c.as_str.ensures.value in
      begun (texts c.args.names.now) m c.loop-name.name-index c.as_str.result.now _ (rw length-map c.loop-name-test.true) at
      (c.in_ok-begin.ensures.made _ (c.loop-name.invariant.begun m is));
  silent = λ none. c.in_ok-begin.ensures.silent (c.loop-name.invariant.silent none);
  reads = c.in_ok-begin.ensures.reads ∙ c.loop-name.invariant.reads;
  writes = c.in_ok-begin.ensures.writes ∙ c.loop-name.invariant.writes;
}

pub returns-clause-begun : goal.returns-clause-begun
returns-clause-begun g c = λ m is.
    subst (λ ns. Stands ns [] m (g.S.Shelf.files c.loop-name.shelf))
    (take_all c.loop-name.name-index (texts c.args.names.now) (rw length-map c.loop-name-test.false)) (c.loop-name.invariant.begun m is)
