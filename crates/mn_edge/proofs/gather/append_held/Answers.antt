use Rattle.std.proofs.Common.{◌≡◌, ◌<◌, [], length, refl, ap, sym, ◌∙◌}
use Rattle.std.proofs.lemmas.Bool.{eqb-true, eqb-false}
use Rattle.std.proofs.lemmas.List.{length-map, nil_from_length, take_all}
use Rattle.std.specs.Option.{option_map}
use Rattle.mn_edge.specs.Memory.{after_calls, next_call}
use Rattle.mn_edge.specs.Kept.{filled, held_for}
use Rattle.mn_edge.specs.FaultLaws.{counted_out}
use Rattle.mn_edge.specs.KeptLaws.{framed_both, framed_same, lacking_at}
use Rattle.mn_edge.specs.Written.{texts}
use Rattle.mn_edge.proofs.Laying.{name_there}
use Rattle.mn_edge.proofs.Gathering.{appended, refused, passed_over, all_appended, framed_append, may_grow, none_for}
use Rattle.mn_edge.proofs.Gathering.{filled_next, filled_same, no_more, one_more}
use Rattle.mn_edge.proofs.Results.{on_err}
use Rattle.mn_edge.proofs.gather.append_held.Goals as goal
use Rattle.mn_edge.proofs.gather.append_held.Goals.{then-not-is_empty+in_ok-append, else-not-is_empty}

pub loop-file-init : goal.loop-file-init
loop-file-init g c = record {
  kept = λ contents holds. holds;
  framed = framed_same _ _;
  untouched = λ none. refl;
  calls = no_more _;
  reads = refl;
  writes = refl;
}

pub returns-in_err-append-clause-part : goal.returns-in_err-append-clause-part
returns-in_err-append-clause-part g c = on_err c.from_residual.result _ (λ contents holds.
    let names = texts c.args.names.now in
    let at = name_there _ _ _ _ c.loop-file-test.true c.index-names-file.is c.as_str.ensures.value in
    refused names contents c.args.held.now c.loop-file.file c.as_str.result.now _ _ _ c.requires.differ at.0 at.1
    c.bytes-bytes.ensures (c.in_err-append.ensures.refused)
    (c.loop-file.invariant.kept contents holds))

pub returns-in_err-append-clause-framed : goal.returns-in_err-append-clause-framed
returns-in_err-append-clause-framed g c =
    let names = texts c.args.names.now in
    let at = name_there _ _ _ _ c.loop-file-test.true c.index-names-file.is c.as_str.ensures.value in
    framed_both names _ _ _ c.loop-file.invariant.framed
    (framed_append names c.loop-file.file c.as_str.result.now _ _ _ at.0 at.1 c.in_err-append.ensures.silent c.in_err-append.ensures.refused)

pub returns-in_err-append-clause-writes : goal.returns-in_err-append-clause-writes
returns-in_err-append-clause-writes g c =
    let names = texts c.args.names.now in
    let at = name_there _ _ _ _ c.loop-file-test.true c.index-names-file.is c.as_str.ensures.value in
    counted_out _ _ _ _ _ _ _ c.from_residual.ensures c.loop-file.invariant.writes
    (lacking_at names c.loop-file.file c.as_str.result.now _ _ at.0 at.1 c.loop-file.invariant.framed.stays)
    c.in_err-append.ensures.writes

pub loop-file-preserved : goal.loop-file-preserved
loop-file-preserved g c =
    let names = texts c.args.names.now in
    let held = c.args.held.now in
    let i = c.loop-file.invariant in
    elim c.if-not-is_empty.branch [
      | then-not-is_empty+in_ok-append w ↦
          let at = name_there _ _ _ _ c.loop-file-test.true c.index-names-file.is w.as_str.ensures.value in
          record {
            kept = λ contents holds. rw w.shelf-is
                (appended names contents held c.loop-file.file w.as_str.result.now _ _ _ c.requires.differ at.0 at.1
                c.bytes-bytes.ensures w.in_ok-append.ensures.grown
                (i.kept contents holds));
            framed = rw w.shelf-is
                (framed_both names _ _ _ i.framed
                (framed_append names c.loop-file.file w.as_str.result.now _ _ _ at.0 at.1 w.in_ok-append.ensures.silent
                (λ m is. may_grow m w.as_str.result.now _ _ (w.in_ok-append.ensures.grown m is))));
            untouched = λ none.
                let h : c.loop-file.file < length held = rw (← c.requires.names) c.loop-file-test.true in
                let no = ap length (c.bytes-bytes.ensures ∙ none_for held c.loop-file.file h none) in
                absurd (eqb-false (length c.bytes-bytes.result.now) 0 (sym c.is_empty.ensures ∙ w.if-not-is_empty.true) no);
            calls = rw w.shelf-is
                (w.in_ok-append.ensures.calls ∙ ap (option_map next_call) i.calls ∙ one_more _ _
                ∙ ap (λ n. option_map (after_calls n) (g.S.Shelf.calls c.args.shelf.now)) (sym (filled_next c.loop-file.file held
                (rw (← c.requires.names) c.loop-file-test.true)
                (λ none. eqb-false (length c.bytes-bytes.result.now) 0 (sym c.is_empty.ensures ∙ w.if-not-is_empty.true)
                (ap length (c.bytes-bytes.ensures ∙ none))))));
            reads = rw w.shelf-is (w.in_ok-append.ensures.reads ∙ i.reads);
            writes = rw w.shelf-is (w.in_ok-append.ensures.writes ∙ i.writes);
          }
      | else-not-is_empty w ↦
          let none : held_for held c.loop-file.file ≡ [] =
          sym c.bytes-bytes.ensures
          ∙ nil_from_length c.bytes-bytes.result.now
          (eqb-true (length c.bytes-bytes.result.now) 0 (sym c.is_empty.ensures ∙ w.if-not-is_empty.false)) in
          record {
            kept = λ contents holds. rw w.shelf-is (passed_over names contents held _ c.loop-file.file none (i.kept contents holds));
            framed = rw w.shelf-is i.framed;
            untouched = λ none. w.shelf-is ∙ i.untouched none;
            calls = rw w.shelf-is
                (i.calls ∙ ap (λ n. option_map (after_calls n) (g.S.Shelf.calls c.args.shelf.now)) (sym (filled_same c.loop-file.file held none)));
            reads = rw w.shelf-is i.reads;
            writes = rw w.shelf-is i.writes;
          }
    ]

pub returns-clause-kept : goal.returns-clause-kept
returns-clause-kept g c =
    λ contents holds. all_appended (texts c.args.names.now) contents c.args.held.now _ c.loop-file.file (rw length-map c.loop-file-test.false)
    (c.loop-file.invariant.kept contents holds)

pub returns-clause-one : goal.returns-clause-one
returns-clause-one g c =
    c.loop-file.invariant.calls
    ∙ ap (λ l. option_map (after_calls (filled l)) (g.S.Shelf.calls c.args.shelf.now))
    (take_all c.loop-file.file c.args.held.now (rw (← c.requires.names) c.loop-file-test.false))
