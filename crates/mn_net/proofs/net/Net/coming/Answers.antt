use Rattle.std.proofs.Common.{◌≡◌, ◌∙◌, ◌≤◌, ◌+◌, true, false, sym, ap, subst}
use Rattle.std.specs.Prelude.{IfSome}
use Rattle.mn_topo.specs.Steps.{fits}
use Rattle.mn_ledger.specs.Ledger.{injects}
use Rattle.mn_ledger.specs.Time.{ticks_in}
use Rattle.mn_ledger_laws.specs.Flight.{IsOpen}
use Rattle.mn_course_laws.specs.declared.coming.Coming.{Coming}
use Rattle.mn_course_laws.specs.Coming.{coming, delivery}
use Rattle.mn_net_laws.specs.Now.{NetNow, StandsFor}
use Rattle.mn_net.proofs.Asked.{parts_stand, within, soon, fitting, open_to}
use Rattle.mn_net.proofs.net.Net.coming.Goals as goal
use Rattle.std.specs.List.{All}
use Rattle.mn_ledger.specs.Items.{flight_of}
use Rattle.mn_course_laws.specs.Next.{first_due, IsNext}
use Rattle.mn_course_laws.proofs.Nexts.{frames_first}
use Rattle.mn_net_laws.proofs.Times.{all_due}

pub coming-requires : goal.coming-requires
coming-requires c =
    let is = c.self.invariant c.if-self.false in
    (c.self.inside.journal.items, is.inputs, parts_stand _ is.inputs is.channels is.stands)

pub returns-clause-value : goal.returns-clause-value
returns-clause-value c = λ ps h.
    let is = c.self.invariant c.if-self.false in
    c.coming.ensures.value c.self.inside.journal.items ps (parts_stand _ ps is.channels (subst (λ (n : NetNow). StandsFor n ps) (sym c.self.view_is) h))
    ∙ ap (λ (n : NetNow). coming n.topology n.journal ps c.args.kind c.args.limit) c.self.view_is

pub returns-clause-within : goal.returns-clause-within
returns-clause-within c =
    let is = c.self.invariant c.if-self.false in
    within c.self.inside.topology c.self.inside.journal.items is.inputs c.args.kind c.args.limit c.coming.result
    (c.coming.ensures.next c.self.inside.journal.items is.inputs (parts_stand _ is.inputs is.channels is.stands))

pub returns-clause-soon : goal.returns-clause-soon
returns-clause-soon c =
    let is = c.self.invariant c.if-self.false in
    subst (λ (n : NetNow). IfSome c.coming.result (λ (item : Coming). item.due ≤ n.tick + 1000)) c.self.view_is
    (soon c.self.inside.topology c.self.inside.journal.items is.inputs c.args.kind c.args.limit c.self.inside.tick is.late c.coming.result
    (c.coming.ensures.next c.self.inside.journal.items is.inputs (parts_stand _ is.inputs is.channels is.stands)))

pub returns-clause-first : goal.returns-clause-first
returns-clause-first c = λ kind works.
    let is = c.self.invariant c.if-self.false in
    let next = c.coming.ensures.next c.self.inside.journal.items is.inputs (parts_stand _ is.inputs is.channels is.stands) in
    subst (λ (n : NetNow). All (λ frame. first_due c.args.limit c.coming.result ≤ frame.due) n.moving.flying) c.self.view_is
    (all_due (first_due c.args.limit c.coming.result) (flight_of c.self.inside.topology c.self.inside.journal.items is.inputs).items _
    is.stands.stands.frames
    (frames_first c.self.inside.topology c.self.inside.journal.items is.inputs c.args.limit c.coming.result
    (subst (λ k. IsNext c.self.inside.topology c.self.inside.journal.items is.inputs k c.args.limit c.coming.result) kind next)))

pub returns-clause-fits : goal.returns-clause-fits
returns-clause-fits c =
    let is = c.self.invariant c.if-self.false in
    subst
    (λ (n : NetNow). IfSome c.coming.result
    (λ (item : Coming). (fits n.topology (delivery item) ≡ true) × (injects (delivery item) ≡ false) × (ticks_in (delivery item) ≡ 0)))
    c.self.view_is
    (fitting c.self.inside.topology c.self.inside.journal.items is.inputs c.args.kind c.args.limit c.coming.result
    (c.coming.ensures.next c.self.inside.journal.items is.inputs (parts_stand _ is.inputs is.channels is.stands)))

pub returns-clause-opens : goal.returns-clause-opens
returns-clause-opens c = λ ps h.
    let is = c.self.invariant c.if-self.false in
    subst (λ (n : NetNow). IfSome c.coming.result (λ (item : Coming). IsOpen n.topology n.journal ps (delivery item))) c.self.view_is
    (open_to c.self.inside.topology c.self.inside.journal.items ps c.args.kind c.args.limit c.coming.result
    (c.coming.ensures.next c.self.inside.journal.items ps (parts_stand _ ps is.channels (subst (λ (n : NetNow). StandsFor n ps) (sym c.self.view_is) h))))
