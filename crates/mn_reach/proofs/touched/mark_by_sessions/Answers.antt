use Rattle.std.proofs.Common.{List, [], get_or, refl, sym, subst, arith}
use Rattle.std.specs.List.{Contains}
use Rattle.std.proofs.lemmas.List.{take_all}
use Rattle.mn_base.specs.declared.numbers.NodeNo.{NodeNo}
use Rattle.mn_base.proofs.Members.{in_contained}
use Rattle.mn_reach.proofs.Marking.{keeps_all, keeps_on, first_edges, second_edges}
use Rattle.mn_reach.proofs.touched.mark_by_sessions.Goals as goal

pub loop-session-init : goal.loop-session-init
loop-session-init c = record {
  keep = keeps_all c.args.marks.now.items;
  one = λ session k h there j. absurd (in_contained [] session h);
  other = λ session k h there j. absurd (in_contained [] session h);
}

pub loop-session-preserved : goal.loop-session-preserved
loop-session-preserved c =
    let sessions = c.args.sessions.now in
    let i = c.loop-session.session-index in
    let none : NodeNo × NodeNo = (record { 0 = 0 }, record { 0 = 0 }) in
    let old = c.args.marks.now.items in
    let marks = c.loop-session.marks.items in
    let mid = c.mark_list.new.marks.items in
    let new = c.mark_list-in-loop-session.new.marks.items in
    let keep = c.loop-session.invariant.keep in
    let one = c.mark_list.ensures in
    let two = c.mark_list-in-loop-session.ensures in
    record {
      keep = keeps_on old mid new (keeps_on old marks mid keep one.keep) two.keep;
      one = first_edges sessions i (get_or sessions i none) none c.loop-session-test.true refl old marks mid new c.args.by_home.now keep one.keep two.keep
          c.from.result c.from.ensures c.loop-session.invariant.one one.marked;
      other = second_edges sessions i (get_or sessions i none) none c.loop-session-test.true refl old marks mid new c.args.by_home.now keep one.keep two.keep
          c.from-in-loop-session.result c.from-in-loop-session.ensures c.loop-session.invariant.other two.marked;
    }

pub returns-clause-one : goal.returns-clause-one
returns-clause-one c = λ session k h.
    c.loop-session.invariant.one session k
    (subst (λ (xs : List (NodeNo × NodeNo)). Contains xs session) (sym (take_all c.loop-session.session-index c.args.sessions.now (omega arith))) h)

pub returns-clause-other : goal.returns-clause-other
returns-clause-other c = λ session k h.
    c.loop-session.invariant.other session k
    (subst (λ (xs : List (NodeNo × NodeNo)). Contains xs session) (sym (take_all c.loop-session.session-index c.args.sessions.now (omega arith))) h)
