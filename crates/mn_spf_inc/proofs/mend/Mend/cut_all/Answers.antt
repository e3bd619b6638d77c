use Rattle.std.proofs.Common.{refl, ◌∙◌, arith}
use Rattle.std.proofs.lemmas.List.Sorted.{length_permutation}
use Rattle.mn_spf_inc.specs.Mending.{State, state_of}
use Rattle.mn_spf_inc.proofs.Cutting.{popped}
use Rattle.mn_spf_inc.proofs.Ends.{no_items}
use Rattle.mn_spf_inc.proofs.mend.Mend.cut_all.Goals as goal

pub examine-requires-clause-there : goal.examine-requires-clause-there
examine-requires-clause-there g c =
    let s' : State = state_of (record { tree = c.loop-way.self.tree; queue = c.pop.new.self; cut = c.loop-way.self.cut }) in
    (popped c.args.net.now c.args.root.0 (state_of c.loop-way.self) s' c.in-Some.field-0.0 c.loop-way.invariant c.in-Some.ensures.permutation refl refl).1

pub examine-requires-clause-not_root : goal.examine-requires-clause-not_root
examine-requires-clause-not_root g c =
    let s' : State = state_of (record { tree = c.loop-way.self.tree; queue = c.pop.new.self; cut = c.loop-way.self.cut }) in
    (popped c.args.net.now c.args.root.0 (state_of c.loop-way.self) s' c.in-Some.field-0.0 c.loop-way.invariant c.in-Some.ensures.permutation refl refl).2

pub examine-requires-clause-cutting : goal.examine-requires-clause-cutting
examine-requires-clause-cutting g c =
    let s' : State = state_of (record { tree = c.loop-way.self.tree; queue = c.pop.new.self; cut = c.loop-way.self.cut }) in
    (popped c.args.net.now c.args.root.0 (state_of c.loop-way.self) s' c.in-Some.field-0.0 c.loop-way.invariant c.in-Some.ensures.permutation refl refl).0

pub loop-way-preserved : goal.loop-way-preserved
loop-way-preserved g c = c.in_ok-examine.ensures.cutting

pub loop-way-smaller : goal.loop-way-smaller
loop-way-smaller g c = omega (arith, c.in_ok-examine.ensures.less, length_permutation _ _ c.in-Some.ensures.permutation)

pub returns-clause-empty : goal.returns-clause-empty
returns-clause-empty g c = c.in_default.ensures.unchanged.0 ∙ no_items _ (omega (arith, c.loop-way.self.queue.data.ok.0, c.in_default.ensures.none))
