use Rattle.std.proofs.Common.{sym, ap, ◌∙◌, Err}
use Rattle.std.proofs.lemmas.Result.{err_from_is_err_and}
use Rattle.mn_pcap.proofs.Fed.{refused_found, finds_refusal}
use Rattle.mn_pcap.proofs.scan.Scan.finish.Goals as goal

pub returns-in_err-standing-clause-found : goal.returns-in_err-standing-clause-found
returns-in_err-standing-clause-found c = λ bytes fed kept.
    let f = err_from_is_err_and c.from_residual.result c.from_residual.ensures.1 in
    finds_refusal c.from_residual.result bytes f.0 f.1
    (refused_found c.args.self bytes f.0 (sym c.standing.ensures ∙ c.in_err-standing.was ∙ ap Err (sym f.2)) kept (fed kept))
