use Rattle.std.proofs.Common.{◌++◌, [], List, ℕ, append-nil, subst, ◌∙◌, ap, Some}
use Rattle.mn_ledger.specs.Ledger.{packets_of}
use Rattle.mn_lines.specs.Putting.{PartPut, PutOn}
use Rattle.mn_lines.proofs.Putting.{ended}
use Rattle.mn_perform.specs.Whole.{last_text}
use Rattle.mn_perform.proofs.Results.{err}
use Rattle.mn_perform.proofs.desk.Desk.end.Goals as goal

pub returns-clause-put : goal.returns-clause-put
returns-clause-put g c = λ inputs before notes stands on.
    let text : List ℕ = notes ++ last_text c.args.net.now c.args.self.now c.args.how (packets_of c.args.net.now.topology c.args.net.now.journal inputs) in
    let put = c.in_ok-end.ensures.put before text (c.in_ok-tell_end.ensures.put inputs stands before notes on) in
    ended before (text ++ []) (g.O.Sink.written c.end.new.out)
    (subst (λ w. PutOn before (text ++ []) w (g.O.Sink.written c.end.new.out)) c.end.ensures.ended put) ∙ ap (λ l. Some (before ++ l)) (append-nil text)

pub returns-in_err-end-clause-part : goal.returns-in_err-end-clause-part
returns-in_err-end-clause-part g c = err c.from_residual-in_err-end.result _ (λ inputs before notes stands on.
    subst (λ l. PartPut l before (g.O.Sink.written c.end.new.out)) (append-nil _)
    (c.in_err-end.ensures.part before _ (c.in_ok-tell_end.ensures.put inputs stands before notes on)))
