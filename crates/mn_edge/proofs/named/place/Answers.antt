use Rattle.std.proofs.Common.{◌≡◌, ap, sym, ◌∙◌, length, ◌<◌, take, [], string_bytes}
use Rattle.std.proofs.lemmas.List.{length-map, take_more}
use Rattle.std.specs.Cmp.Lexicographic.{texts_ties}
use Rattle.mn_edge.specs.Place.{entry}
use Rattle.mn_edge.specs.Written.{pairs, same_name}
use Rattle.mn_edge.proofs.Entries.{text-eq, entry-pairs, find-push_other}
use Rattle.mn_edge.proofs.named.place.Goals as goal

pub returns-then-eq-clause-found : goal.returns-then-eq-clause-found
returns-then-eq-clause-found c = record {
  within = rw length-map c.loop-i-test.true;
  named = ap (λ e. e.0) (entry-pairs c.args.files.now c.loop-i.i c.index-files-i.result c.loop-i-test.true c.index-files-i.is)
      ∙ ap (λ e. string_bytes e.0) c.index-files-i.is ∙ sym c.as_str.ensures.value ∙ sym (text-eq c.args.name.now c.as_str.result.now (sym c.if-eq.ensures));
  first = c.loop-i.invariant;
}

pub loop-i-preserved : goal.loop-i-preserved
loop-i-preserved c =
    let within : c.loop-i.i < length (pairs c.args.files.now) = rw length-map c.loop-i-test.true in
    let name : (entry (pairs c.args.files.now) c.loop-i.i).0 ≡ c.as_str.result.now =
    ap (λ e. e.0) (entry-pairs c.args.files.now c.loop-i.i c.index-files-i.result c.loop-i-test.true c.index-files-i.is)
    ∙ ap (λ e. string_bytes e.0) c.index-files-i.is ∙ sym c.as_str.ensures.value in
    rw (take_more (pairs c.args.files.now) c.loop-i.i ([], []) within)
    (find-push_other (take c.loop-i.i (pairs c.args.files.now)) (entry (pairs c.args.files.now) c.loop-i.i) c.args.name.now c.loop-i.invariant
    (ap (same_name c.args.name.now) name ∙ sym (texts_ties c.args.name.now c.as_str.result.now) ∙ sym c.if-eq.ensures))
