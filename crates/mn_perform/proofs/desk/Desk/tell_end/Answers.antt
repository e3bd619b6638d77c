use Rattle.std.proofs.Common.{ℕ, List, OnErr, sym, subst}
use Rattle.mn_ledger.specs.Ledger.{packets_of}
use Rattle.mn_lines.specs.Putting.{PutsPart}
use Rattle.mn_net_laws.specs.Now.{StandsFor}
use Rattle.mn_perform.specs.Whole.{last_text}
use Rattle.mn_perform.proofs.Results.{on_err}
use Rattle.mn_perform.proofs.desk.Desk.tell_end.Goals as goal

pub returns-in-All-clause-part : goal.returns-in-All-clause-part
returns-in-All-clause-part g c =
    subst (λ how. OnErr c.tell.result ((inputs : List (List ℕ)) → StandsFor c.args.net.now inputs →
    PutsPart (last_text c.args.net.now c.args.self.now how (packets_of c.args.net.now.topology c.args.net.now.journal inputs)) c.args.self.now.page
    (g.O.Sink.written c.args.out.now)
    (g.O.Sink.written c.tell.new.out))) (sym c.in-All.is) c.tell.ensures.part

pub returns-in-TooManySteps-clause-part : goal.returns-in-TooManySteps-clause-part
returns-in-TooManySteps-clause-part g c =
    subst (λ how. OnErr c.tell_full.result ((inputs : List (List ℕ)) → StandsFor c.args.net.now inputs →
    PutsPart (last_text c.args.net.now c.args.self.now how (packets_of c.args.net.now.topology c.args.net.now.journal inputs)) c.args.self.now.page
    (g.O.Sink.written c.args.out.now)
    (g.O.Sink.written c.tell_full.new.out))) (sym c.in-TooManySteps.is) (on_err c.tell_full.result _ _ (λ part inputs stands. part) c.tell_full.ensures.part)
