use Rattle.std.proofs.Common.{ℕ, ◌≡◌, ◌∙◌, true, List, sym, ap, subst}
use Rattle.mn_topo.specs.Steps.{fits}
use Rattle.mn_ledger.specs.Refusal.{refusal}
use Rattle.mn_net_laws.specs.Now.{NetNow, StandsFor}
use Rattle.mn_net_laws.proofs.Told.{net_is}
use Rattle.mn_net.proofs.Asked.{parts_stand}
use Rattle.mn_net.proofs.net.Net.refusal.Goals as goal
use Rattle.mn_net.proofs.net.Net.refusal.Goals.{After-refusal-cause}

pub refusal-cause-requires-clause-fits : goal.refusal-cause-requires-clause-fits
refusal-cause-requires-clause-fits c = subst (λ (n : NetNow). fits n.topology c.args.step.now ≡ true) (sym c.self.view_is) c.requires.fits

pub refusal-cause-requires-clause-stands : goal.refusal-cause-requires-clause-stands
refusal-cause-requires-clause-stands c =
    let is = net_is _ _ c.self.view_is c.self.invariant c.requires.works in
    (c.self.inside.journal.items, is.inputs, parts_stand _ is.inputs is.channels is.stands)

-- it is the ledger's cause
is_cause : (c : After-refusal-cause) (ps : List (List ℕ)) → StandsFor c.args.self.now ps →
    refusal c.args.self.now.topology c.args.self.now.journal ps c.args.step.now c.args.packet.now ≡ c.refusal-cause.result
is_cause c ps h =
    let is = net_is _ _ c.self.view_is c.self.invariant c.requires.works in
    ap (λ (n : NetNow). refusal n.topology n.journal ps c.args.step.now c.args.packet.now) (sym c.self.view_is)
    ∙ sym (c.refusal-cause.ensures.answer c.self.inside.journal.items ps
    (parts_stand _ ps is.channels (subst (λ (n : NetNow). StandsFor n ps) (sym c.self.view_is) h)) (c.len.ensures ∙ c.self.inside.journal.ok.0))

pub returns-in-Some : goal.returns-in-Some
returns-in-Some c = record { exact = λ ps h. is_cause (goal.at.returns-in-Some c).After-refusal-cause ps h ∙ c.in-Some.is }

pub returns-in-None : goal.returns-in-None
returns-in-None c = record { exact = λ ps h. is_cause (goal.at.returns-in-None c).After-refusal-cause ps h ∙ c.in-None.is }
