use Rattle.std.proofs.Common.{◌≡◌, Some, None, Err, sym, ◌∙◌, ap, refl, subst, ◌-◌, ◌+◌, arith, length}
use Rattle.std.proofs.lemmas.Result.{err_from_is_err_and}
use Rattle.mn_course_laws.specs.Course.{Past, Course, deliver, next_now, inputs_of, is_journal_full, one_by_one}
use Rattle.mn_sched.specs.Playing.{past_of, Arrives, IsFirstPart}
use Rattle.mn_sched.proofs.Delivering.{first_part_refl, first_part_trans, next_turn, one_then, one_stops, deliver_more, told_now, keeps, stands_on}
use Rattle.mn_sched.proofs.Flushing.{flush_comes}
use Rattle.mn_sched.proofs.Telling.{caused_after}
use Rattle.mn_sched.proofs.line.deliver.Goals as goal

pub returns-in_default-clause-course : goal.returns-in_default-clause-course
returns-in_default-clause-course g c = λ all before.
    let l = c.loop-turn in
    let net = c.keep_room.new.net in
    let past : past_of net ≡ past_of l.net = c.keep_room.ensures.past in
    let stands = stands_on net l.net all past c.keep_room.ensures.stands (l.invariant.standing all before) in
    let none : next_now c.args.net.now.topology all c.args.arrivals (past_of l.net) ≡ None =
    told_now c.args.net.now.topology all c.args.arrivals net l.net None past (c.keep_room.ensures.topology ∙ l.invariant.topology)
    (sym (c.next_arrival.ensures.value (inputs_of all net.journal) stands) ∙ c.in_default.is) in
    let over =
    sym (l.invariant.course all before)
    ∙ next_turn c.args.net.now.topology all c.args.arrivals c.args.most l.turn (past_of l.net) None c.loop-turn-test.true none in
    (ap (λ x. x.ending) over, past ∙ sym (ap (λ x. x.past) over))

pub returns-in_default-clause-after : goal.returns-in_default-clause-after
returns-in_default-clause-after g c = λ all told.
    let l = c.loop-turn in
    keeps c.keep_room.new.net l.net (g.W.Watch.stands l.watch) all c.keep_room.ensures.past c.keep_room.ensures.topology c.keep_room.ensures.stands
    (l.invariant.together all (l.invariant.packets ∙ told))

pub deliver_one-requires-clause-together : goal.deliver_one-requires-clause-together
deliver_one-requires-clause-together g c = λ all told.
    let l = c.loop-turn in
    keeps c.keep_room.new.net l.net (g.W.Watch.stands l.watch) all c.keep_room.ensures.past c.keep_room.ensures.topology c.keep_room.ensures.stands
    (l.invariant.together all told)

pub loop-turn-preserved : goal.loop-turn-preserved
loop-turn-preserved g c =
    let l = c.loop-turn in
    let net = c.keep_room.new.net in
    let past : past_of net ≡ past_of l.net = c.keep_room.ensures.past in
    let journal : net.journal ≡ l.net.journal = ap (λ (p : Past). p.entries) past in
    let many : length net.journal ≡ length l.net.journal = ap length journal in
    let tick : net.tick ≡ l.net.tick = ap (λ (p : Past). p.clock) past in
    let done = c.in_ok-deliver_one.ensures in
    record {
      course = λ all before.
          let rest : Past → Course = λ later. deliver c.args.net.now.topology all c.args.arrivals (c.args.most - (l.turn + 1)) later in
          let stands = stands_on net l.net all past c.keep_room.ensures.stands (l.invariant.standing all before) in
          let some : next_now c.args.net.now.topology all c.args.arrivals (past_of l.net) ≡ Some c.in-Some.item =
          told_now c.args.net.now.topology all c.args.arrivals net l.net (Some c.in-Some.item) past (c.keep_room.ensures.topology ∙ l.invariant.topology)
          (sym (c.next_arrival.ensures.value (inputs_of all net.journal) stands) ∙ c.in-Some.is) in
          sym (one_then c.args.arrivals rest (past_of net) (is_journal_full (past_of net)) c.in-Some.item c.deliver_one.new.net
          (done.course all stands))
          ∙ ap (λ p. one_by_one c.args.arrivals rest p (is_journal_full p) (Some c.in-Some.item)) past
          ∙ sym (next_turn c.args.net.now.topology all c.args.arrivals c.args.most l.turn (past_of l.net) (Some c.in-Some.item) c.loop-turn-test.true some)
          ∙ l.invariant.course all before;
      standing = λ all before. done.standing all (stands_on net l.net all past c.keep_room.ensures.stands (l.invariant.standing all before));
      room = λ flush all before some.
          let comes = flush_comes c.args.net.now.topology all l.net c.args.arrivals c.in-Some.item l.invariant.topology flush
          (told_now c.args.net.now.topology all c.args.arrivals net l.net (Some c.in-Some.item) past (c.keep_room.ensures.topology ∙ l.invariant.topology)
          (sym (c.next_arrival.ensures.value (inputs_of all net.journal)
          (stands_on net l.net all past c.keep_room.ensures.stands (l.invariant.standing all before))) ∙ c.in-Some.is)) in
          done.room comes.0 _
          (c.in_ok-left.ensures.room flush (l.invariant.room flush all before) (inputs_of all l.net.journal) (l.invariant.standing all before) comes.1);
      together = λ all told. done.after all (sym done.packets ∙ told);
      topology = done.topology ∙ c.keep_room.ensures.topology ∙ l.invariant.topology;
      grown = first_part_trans _ _ _ l.invariant.grown (subst (λ es. IsFirstPart es c.deliver_one.new.net.journal) journal done.grown);
      clock = (omega (arith, done.clock.0, l.invariant.clock.0, many), omega (arith, done.clock.1, l.invariant.clock.1, many, tick));
      early = done.early;
      longer = omega (arith, done.longer.0, l.invariant.longer, many);
      few = λ some. done.longer.1;
      records = done.records ∙ l.invariant.records;
      packets = done.packets ∙ l.invariant.packets;
      goes_on = g.met.W.Watch.onward _ _ _ l.invariant.goes_on done.goes_on;
      reads = done.cause.0 ∙ l.invariant.reads;
      writes = done.cause.1 ∙ l.invariant.writes;
    }

pub returns-in_err-deliver_one-clause-course : goal.returns-in_err-deliver_one-clause-course
returns-in_err-deliver_one-clause-course g c = λ all before.
    let l = c.loop-turn in
    let net = c.keep_room.new.net in
    let past : past_of net ≡ past_of l.net = c.keep_room.ensures.past in
    let rest : Past → Course = λ later. deliver c.args.net.now.topology all c.args.arrivals (c.args.most - (l.turn + 1)) later in
    let stands = stands_on net l.net all past c.keep_room.ensures.stands (l.invariant.standing all before) in
    let some : next_now c.args.net.now.topology all c.args.arrivals (past_of l.net) ≡ Some c.in-Some.item =
    told_now c.args.net.now.topology all c.args.arrivals net l.net (Some c.in-Some.item) past (c.keep_room.ensures.topology ∙ l.invariant.topology)
    (sym (c.next_arrival.ensures.value (inputs_of all net.journal) stands) ∙ c.in-Some.is) in
    let handed = err_from_is_err_and c.from_residual-in_err-deliver_one.result c.from_residual-in_err-deliver_one.ensures.1 in
    rw (handed.1, handed.2)
    (subst (λ x. Arrives x c.deliver_one.new.net (Err c.in_err-deliver_one.field-0.0))
    (ap (λ p. one_by_one c.args.arrivals rest p (is_journal_full p) (Some c.in-Some.item)) past
    ∙ sym (next_turn c.args.net.now.topology all c.args.arrivals c.args.most l.turn (past_of l.net) (Some c.in-Some.item) c.loop-turn-test.true some)
    ∙ l.invariant.course all before)
    (one_stops c.args.arrivals rest (past_of net) (is_journal_full (past_of net)) c.in-Some.item c.deliver_one.new.net c.in_err-deliver_one.field-0.0
    (λ later. deliver_more c.args.net.now.topology all c.args.arrivals (c.args.most - (l.turn + 1)) later)
    (c.in_err-deliver_one.ensures.course all stands)))

pub returns-in_err-left-clause-course : goal.returns-in_err-left-clause-course
returns-in_err-left-clause-course g c = λ all before.
    let l = c.loop-turn in
    let net = c.keep_room.new.net in
    let past : past_of net ≡ past_of l.net = c.keep_room.ensures.past in
    let handed = err_from_is_err_and c.from_residual.result c.from_residual.ensures.1 in
    rw (handed.1, handed.2, c.in_err-left.ensures.memory)
    (subst (λ (x : Course). IsFirstPart net.journal x.past.entries) (l.invariant.course all before)
    (subst (λ (p : Past). IsFirstPart p.entries (deliver c.args.net.now.topology all c.args.arrivals (c.args.most - l.turn) (past_of l.net)).past.entries)
    (sym past)
    (deliver_more c.args.net.now.topology all c.args.arrivals (c.args.most - l.turn) (past_of l.net))))

pub returns-in_default-clause-gone : goal.returns-in_default-clause-gone
returns-in_default-clause-gone g c = λ many. c.next_arrival.ensures.gone c.in_default.is

pub returns-clause-gone : goal.returns-clause-gone
returns-clause-gone g c = λ many.
    let l = c.loop-turn in
    let few = l.invariant.few in
    let longer = l.invariant.longer in
    absurd (omega (arith, many, few, longer))

pub returns-clause-after : goal.returns-clause-after
returns-clause-after g c = λ all told. c.loop-turn.invariant.together all (c.loop-turn.invariant.packets ∙ told)

pub loop-turn-init : goal.loop-turn-init
loop-turn-init g c = record {
  course = λ capture before. ap (λ n. deliver c.args.net.now.topology capture c.args.arrivals n (past_of c.args.net.now))
      (let e : c.args.most - 0 ≡ c.args.most = omega arith in e);
  standing = λ all before. before;
  room = λ flush all before some. absurd (omega (arith, some));
  together = c.requires.together;
  topology = refl;
  grown = first_part_refl c.args.net.now.journal;
  clock = (omega arith, omega arith);
  early = c.requires.early;
  longer = omega arith;
  few = λ some. absurd (omega (arith, some));
  records = refl;
  packets = refl;
  goes_on = g.met.W.Watch.stays _;
  reads = refl;
  writes = refl;
}

pub returns-in_err-left-clause-grown : goal.returns-in_err-left-clause-grown
returns-in_err-left-clause-grown g c =
    let l = c.loop-turn in
    subst (λ (p : Past). IsFirstPart c.args.net.now.journal p.entries) (sym c.keep_room.ensures.past) l.invariant.grown

pub returns-in_err-deliver_one-clause-goes_on : goal.returns-in_err-deliver_one-clause-goes_on
returns-in_err-deliver_one-clause-goes_on g c = g.met.W.Watch.onward _ _ _ c.loop-turn.invariant.goes_on c.in_err-deliver_one.ensures.goes_on

pub returns-in_err-deliver_one-clause-grown : goal.returns-in_err-deliver_one-clause-grown
returns-in_err-deliver_one-clause-grown g c =
    let journal = ap (λ (p : Past). p.entries) c.keep_room.ensures.past in
    first_part_trans _ _ _ c.loop-turn.invariant.grown (subst (λ es. IsFirstPart es c.deliver_one.new.net.journal) journal c.in_err-deliver_one.ensures.grown)

pub returns-in_err-deliver_one-clause-cause : goal.returns-in_err-deliver_one-clause-cause
returns-in_err-deliver_one-clause-cause g c =
    let l = c.loop-turn in
    let handed = err_from_is_err_and c.from_residual-in_err-deliver_one.result c.from_residual-in_err-deliver_one.ensures.1 in
    rw (handed.1, handed.2)
    (caused_after {T = Unit {0}} _ _ _ _ _ (Err c.in_err-deliver_one.field-0.0) l.invariant.reads l.invariant.writes
    (λ none. sym l.invariant.packets ∙ none) c.in_err-deliver_one.ensures.cause)

pub returns-clause-standing : goal.returns-clause-standing
returns-clause-standing g c = c.loop-turn.invariant.standing

pub returns-in_default-clause-standing : goal.returns-in_default-clause-standing
returns-in_default-clause-standing g c = λ all before.
    let l = c.loop-turn in
    stands_on c.keep_room.new.net l.net all c.keep_room.ensures.past c.keep_room.ensures.stands (l.invariant.standing all before)

pub returns-in_default-clause-works : goal.returns-in_default-clause-works
returns-in_default-clause-works g c = λ flush all before.
    let l = c.loop-turn in
    (stands_on c.keep_room.new.net l.net all c.keep_room.ensures.past c.keep_room.ensures.stands (l.invariant.standing all before)).works

pub returns-in_err-left-clause-works : goal.returns-in_err-left-clause-works
returns-in_err-left-clause-works g c = λ flush all before.
    let l = c.loop-turn in
    (stands_on c.keep_room.new.net l.net all c.keep_room.ensures.past c.keep_room.ensures.stands (l.invariant.standing all before)).works

pub returns-in_err-deliver_one-clause-works : goal.returns-in_err-deliver_one-clause-works
returns-in_err-deliver_one-clause-works g c = λ flush all before.
    let l = c.loop-turn in
    let net = c.keep_room.new.net in
    let past : past_of net ≡ past_of l.net = c.keep_room.ensures.past in
    let comes = flush_comes c.args.net.now.topology all l.net c.args.arrivals c.in-Some.item l.invariant.topology flush
    (told_now c.args.net.now.topology all c.args.arrivals net l.net (Some c.in-Some.item) past (c.keep_room.ensures.topology ∙ l.invariant.topology)
    (sym (c.next_arrival.ensures.value (inputs_of all net.journal)
    (stands_on net l.net all past c.keep_room.ensures.stands (l.invariant.standing all before))) ∙ c.in-Some.is)) in
    (c.in_err-deliver_one.ensures.room comes.0 _
    (c.in_ok-left.ensures.room flush (l.invariant.room flush all before) (inputs_of all l.net.journal) (l.invariant.standing all before) comes.1)).works

pub returns-clause-works : goal.returns-clause-works
returns-clause-works g c = λ flush all before. (c.loop-turn.invariant.standing all before).works
