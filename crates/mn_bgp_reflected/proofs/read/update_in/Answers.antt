use Rattle.std.proofs.lemmas.Result.{err_from_is_err_and}
use Rattle.mn_bgp_reflected.proofs.Messages.{update_answers, update_found, update_never, refusal_answers}
use Rattle.mn_bgp_reflected.proofs.read.update_in.Goals as goal

pub returns-clause-reading : goal.returns-clause-reading
returns-clause-reading c =
    update_answers c.update_of.result c.args.bytes.now c.in_ok-read_bgp.field-0 c.update_of.ensures c.in_ok-read_bgp.ensures.reading

pub returns-clause-found : goal.returns-clause-found
returns-clause-found c =
    update_found c.update_of.result c.args.bytes.now c.in_ok-read_bgp.field-0 c.update_of.ensures c.in_ok-read_bgp.ensures.found

pub returns-clause-memory : goal.returns-clause-memory
returns-clause-memory c = update_never c.update_of.result c.in_ok-read_bgp.field-0 c.update_of.ensures

pub returns-in_err-read_bgp-clause-reading : goal.returns-in_err-read_bgp-clause-reading
returns-in_err-read_bgp-clause-reading c =
    let f = err_from_is_err_and c.from_residual.result c.from_residual.ensures.1 in
    rw (f.1, f.2) (refusal_answers c.in_err-read_bgp.field-0.0 _ c.in_err-read_bgp.ensures.reading)
