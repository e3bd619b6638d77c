use Rattle.mn_lines.proofs.Putting.{puts_then, cut_in_first, cut_in_second}
use Rattle.mn_perform.proofs.Results.{err}
use Rattle.mn_perform.proofs.desk.Desk.tell.Goals as goal

pub returns-in_err-put_packets-clause-part : goal.returns-in_err-put_packets-clause-part
returns-in_err-put_packets-clause-part g c =
    err c.from_residual.result _ (λ inputs stands. cut_in_first _ _ _ _ _ (rw c.deref.ensures.value at (c.in_err-put_packets.ensures.part inputs stands)))

pub returns-in_err-put_total-clause-part : goal.returns-in_err-put_total-clause-part
returns-in_err-put_total-clause-part g c =
    err c.from_residual-in_err-put_total.result _ (λ inputs stands.
    cut_in_second _ _ _ _ _ _ _ (rw c.deref.ensures.value at (c.in_ok-put_packets.ensures.put inputs stands)) (c.in_err-put_total.ensures.part inputs stands))

pub returns-clause-put : goal.returns-clause-put
returns-clause-put g c = λ inputs stands.
    puts_then _ _ _ _ _ _ _ _ (rw c.deref.ensures.value at (c.in_ok-put_packets.ensures.put inputs stands)) (c.in_ok-put_total.ensures.put inputs stands)
