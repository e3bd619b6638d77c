use Rattle.std.proofs.Common.{sym, ap, ◌∙◌, is_ok, Err}
use Rattle.std.proofs.lemmas.Result.{err_from_is_err_and}
use Rattle.mn_pcap.proofs.InOrder.{begins_by, continues_by, read_whole, read_to, on_ok, answers_refusal}
use Rattle.mn_pcap.proofs.read.records.Goals as goal

pub records-init : goal.records-init
records-init c = begins_by c.args.bytes.now c.in_ok-form.form _ (sym c.read_header.ensures ∙ c.in_ok-form.was) c.new-places.ensures.items

pub returns-in_err-place-clause-reading : goal.returns-in_err-place-clause-reading
returns-in_err-place-clause-reading c = let f = err_from_is_err_and c.from_residual-in_err-place.result c.from_residual-in_err-place.ensures.1 in
    answers_refusal c.from_residual-in_err-place.result f.0 _ f.1
    (read_to c.args.bytes.now c.in_ok-form.form _ c.records.at f.0 (sym c.read_header.ensures ∙ c.in_ok-form.was)
    (sym c.record_at.ensures.place ∙ c.in_err-place.was ∙ ap Err (sym f.2)) c.records-test.true c.records.invariant)

pub records-preserved : goal.records-preserved
records-preserved c =
    continues_by c.in_ok-form.form.big c.args.bytes.now c.records.places.items _ c.records.at _ c.in_ok-place.place
    (sym c.record_at.ensures.place ∙ c.in_ok-place.was) c.end_of-at.ensures
    (on_ok (is_ok c.push.result) _ _ _ (sym c.map_err.ensures.variant ∙ ap is_ok c.in_ok-map_err.was) c.push.ensures.items) c.records.invariant

pub returns-clause-reading : goal.returns-clause-reading
returns-clause-reading c =
    read_whole c.args.bytes.now c.in_ok-form.form _ c.records.at (sym c.read_header.ensures ∙ c.in_ok-form.was) c.records-test.false c.records.invariant
