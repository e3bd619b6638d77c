use Rattle.std.proofs.Common.{◌≤◌, length, subst, sym}
use Rattle.mn_ledger.specs.Ledger.{packets_of}
use Rattle.mn_ledger.specs.Lawful.{GoesForward}
use Rattle.mn_ledger.specs.OneMore.{tick_from}
use Rattle.mn_net_laws.specs.Now.{NetNow, StandsFor}
use Rattle.mn_net_laws.proofs.Told.{net_is}
use Rattle.mn_net_laws.proofs.Times.{goes_forward}
use Rattle.mn_net.proofs.Asked.{few_steps, few_packets}
use Rattle.mn_net.proofs.net.Net.laws.Goals as goal

pub returns-clause-steps : goal.returns-clause-steps
returns-clause-steps c = λ works.
    subst (λ (n : NetNow). length n.journal ≤ 4000000) c.self.view_is (few_steps _ c.laws.ensures (net_is _ _ c.self.view_is c.self.invariant works))

pub returns-clause-packets : goal.returns-clause-packets
returns-clause-packets c = λ works.
    subst (λ (n : NetNow). length n.moving.verdicts ≤ 4000000) c.self.view_is (few_packets _ c.laws.ensures (net_is _ _ c.self.view_is c.self.invariant works))

pub returns-clause-late : goal.returns-clause-late
returns-clause-late c = λ works.
    subst (λ (n : NetNow). tick_from 0 n.journal ≤ n.tick) c.self.view_is (net_is _ _ c.self.view_is c.self.invariant works).late

pub returns-clause-forward : goal.returns-clause-forward
returns-clause-forward c = λ inputs stands.
    let is = net_is _ _ c.self.view_is c.self.invariant stands.works in
    let now = subst (λ (n : NetNow). StandsFor n inputs) (sym c.self.view_is) stands in
    subst (λ (n : NetNow). GoesForward n.topology (tick_from 0 n.journal) (packets_of n.topology n.journal inputs) n.tick) c.self.view_is
    (goes_forward c.self.inside.topology c.self.inside.journal.items inputs _ c.self.inside.tick c.laws.ensures now.stands.lawful now.stands.frames is.late
    is.due)
