use Rattle.std.proofs.Common.{sym, ◌∙◌, ap, subst}
use Rattle.mn_ledger.specs.Ledger.{injects}
use Rattle.mn_ledger.specs.Time.{ticks_in}
use Rattle.mn_course_laws.specs.Coming.{delivery}
use Rattle.mn_sched.specs.Playing.{IsFirstPart}
use Rattle.mn_sched.proofs.Telling.{leaves, opens_then, same_journal, arrives_by, longer_by, paced_by, left_by, topology_by, step_grown}
use Rattle.mn_sched.proofs.arrivals.arrive.Goals as goal

pub returns-clause-arrives : goal.returns-clause-arrives
returns-clause-arrives c = λ inputs stands.
    let journal = same_journal c.args.arrivals c.in-Some.item.due c.args.net.now c.set_clock.new.net c.set_clock.ensures.past in
    let mid = c.set_clock.ensures.stands inputs stands in
    let answer = opens_then c.args.net.now c.set_clock.new.net inputs c.delivery.result (delivery c.in-Some.item) c.step.result journal
    c.set_clock.ensures.topology
    c.delivery.ensures (c.in-Some.ensures.opens inputs stands) (c.step.ensures.answer inputs mid) in
    arrives_by c.args.arrivals c.in-Some.item c.args.net.now c.set_clock.new.net c.step.new.self inputs c.delivery.result c.step.result c.set_clock.ensures.past
    c.set_clock.ensures.topology c.delivery.ensures (ap injects c.delivery.ensures ∙ c.in-Some.ensures.fits.1) answer c.step.ensures.longer
    (leaves _ _ _ c.step.ensures.left c.step.ensures.for_good) c.step.ensures.stands mid (sym (c.in-Some.ensures.value inputs stands))

pub returns-clause-topology : goal.returns-clause-topology
returns-clause-topology c =
    topology_by c.step.result c.set_clock.new.net c.step.new.self c.delivery.result c.step.ensures.longer
    (leaves _ _ _ c.step.ensures.left c.step.ensures.for_good)
    ∙ c.set_clock.ensures.topology

pub returns-clause-left : goal.returns-clause-left
returns-clause-left c =
    let journal = same_journal c.args.arrivals c.in-Some.item.due c.args.net.now c.set_clock.new.net c.set_clock.ensures.past in
    left_by c.step.result c.args.net.now c.set_clock.new.net c.step.new.self journal (leaves _ _ _ c.step.ensures.left c.step.ensures.for_good)

pub returns-clause-grown : goal.returns-clause-grown
returns-clause-grown c =
    let journal = same_journal c.args.arrivals c.in-Some.item.due c.args.net.now c.set_clock.new.net c.set_clock.ensures.past in
    subst (λ j. IsFirstPart j c.step.new.self.journal) journal
    (step_grown c.step.result c.set_clock.new.net c.step.new.self c.delivery.result c.step.ensures.longer
    (leaves _ _ _ c.step.ensures.left c.step.ensures.for_good))

pub returns-clause-longer : goal.returns-clause-longer
returns-clause-longer c =
    let journal = same_journal c.args.arrivals c.in-Some.item.due c.args.net.now c.set_clock.new.net c.set_clock.ensures.past in
    longer_by c.step.result c.args.net.now c.set_clock.new.net c.step.new.self c.delivery.result journal c.step.ensures.longer

pub returns-clause-clock : goal.returns-clause-clock
returns-clause-clock c =
    let journal = same_journal c.args.arrivals c.in-Some.item.due c.args.net.now c.set_clock.new.net c.set_clock.ensures.past in
    paced_by c.step.result c.args.net.now c.set_clock.new.net c.step.new.self c.delivery.result c.in-Some.item.due c.set_clock.ensures.clock
    c.in-Some.ensures.soon journal (ap ticks_in c.delivery.ensures ∙ c.in-Some.ensures.fits.2) c.step.ensures.longer
