use Rattle.std.proofs.Common.{sym, arith, ◌<◌, ◌≡◌, ℕ, List, Result, Ok, Err, ◌∙◌, ap, subst, ◌+◌, max, rules}
use Rattle.std.proofs.lemmas.Result.{err_from_is_err_and}
use Rattle.mn_course_laws.specs.Course.{Course, deliver, all, inputs_of}
use Rattle.mn_course_laws.specs.declared.coming.Arrivals.TheVariants.{DueBy}
use Rattle.mn_sched.specs.Playing.{past_of, Arrives, IsFirstPart}
use Rattle.mn_sched.specs.declared.line.Stopped.{Stopped}
use Rattle.mn_net.specs.Now.{NetNow, StandsFor}
use Rattle.mn_sched.proofs.Telling.{run_paced, run_takes, run_stops, set_on}
use Rattle.mn_sched.proofs.Onward.{goes_on_to}
use Rattle.mn_sched.proofs.line.pass_ticks.Goals as goal

at_end : (tick ticks most end : ℕ) (net : NetNow) (capture : List (List ℕ)) (mid : NetNow) (r : Result (Unit {0}) Stopped) → tick + ticks ≡ end →
    most ≡ all → Arrives (deliver net.topology capture (DueBy (tick + ticks)) most (past_of net)) mid r →
    Arrives (deliver net.topology capture (DueBy end) all (past_of net)) mid r
at_end tick ticks most end net capture mid r e m h =
    subst (λ x. Arrives (deliver net.topology capture (DueBy end) x (past_of net)) mid r) m
    (subst (λ x. Arrives (deliver net.topology capture (DueBy x) most (past_of net)) mid r) e h)

pub returns-clause-course : goal.returns-clause-course
returns-clause-course g c = λ capture before.
    let net = c.args.net.now in
    let end : ℕ = net.tick + c.args.ticks in
    let end_is : c.tick.result + c.from.result ≡ end = search rules in
    let course : Course = deliver net.topology capture (DueBy end) all (past_of net) in
    let clock : c.max.result ≡ max c.deliver.new.net.tick end = search rules in
    run_takes end course c.deliver.new.net c.advance.new.self
    (at_end c.tick.result c.from.result c.all_items.result end net capture c.deliver.new.net (Ok tt) end_is c.all_items.ensures
    (c.in_ok-deliver.ensures.course capture before))
    (ap past_of c.advance.ensures.set ∙ ap (λ t. record { clock = t; entries = c.deliver.new.net.journal }) clock)

pub returns-in_err-deliver-clause-course : goal.returns-in_err-deliver-clause-course
returns-in_err-deliver-clause-course g c = λ capture before.
    let net = c.args.net.now in
    let end : ℕ = net.tick + c.args.ticks in
    let end_is : c.tick.result + c.from.result ≡ end = search rules in
    let course : Course = deliver net.topology capture (DueBy end) all (past_of net) in
    let handed = err_from_is_err_and c.from_residual.result c.from_residual.ensures.1 in
    rw (handed.1, handed.2)
    (run_stops end course c.deliver.new.net _
    (at_end c.tick.result c.from.result c.all_items.result end net capture c.deliver.new.net (Err _) end_is c.all_items.ensures
    (c.in_err-deliver.ensures.course capture before)))

pub returns-clause-after : goal.returns-clause-after
returns-clause-after g c =
    set_on c.deliver.new.net c.advance.new.self (g.W.Watch.packets c.args.watch.now) (g.W.Watch.stands c.deliver.new.watch)
    (ap (λ n. n.journal) c.advance.ensures.set) (ap (λ n. n.topology) c.advance.ensures.set) c.advance.ensures.stands c.in_ok-deliver.ensures.after

pub returns-clause-clock : goal.returns-clause-clock
returns-clause-clock g c =
    let net = c.args.net.now in
    let end : ℕ = net.tick + c.args.ticks in
    let clock : c.max.result ≡ max c.deliver.new.net.tick end = search rules in
    run_paced net c.deliver.new.net c.advance.new.self c.args.ticks c.requires.few c.in_ok-deliver.ensures.clock (ap (λ n. n.tick) c.advance.ensures.set
    ∙ clock)
    (ap (λ n. n.journal) c.advance.ensures.set)

pub returns-clause-grown : goal.returns-clause-grown
returns-clause-grown g c =
    subst (λ j. IsFirstPart c.args.net.now.journal j) (sym (ap (λ n. n.journal) c.advance.ensures.set)) c.in_ok-deliver.ensures.grown

pub advance-requires-clause-due : goal.advance-requires-clause-due
unfolding all
advance-requires-clause-due g c =
    let many : 4000000 < c.all_items.result = omega (arith, c.all_items.ensures) in
    goes_on_to c.deliver.new.net _ c.max.result (search rules) (c.in_ok-deliver.ensures.gone many)

pub returns-clause-standing : goal.returns-clause-standing
returns-clause-standing g c = λ all before.
    subst (λ j. StandsFor c.advance.new.self (inputs_of all j)) (sym (ap (λ n. n.journal) c.advance.ensures.set))
    (c.advance.ensures.stands (inputs_of all c.deliver.new.net.journal) (c.in_ok-deliver.ensures.standing all before))
