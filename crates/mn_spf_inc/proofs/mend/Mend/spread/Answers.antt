use Rattle.std.proofs.Common.{refl, ◌∙◌, arith}
use Rattle.mn_spf_inc.specs.Mending.{State, state_of, NoRest}
use Rattle.mn_spf_inc.proofs.Places.{way_there, popped, shorter, retargeted}
use Rattle.mn_spf_inc.proofs.Ends.{no_items}
use Rattle.mn_spf_inc.proofs.mend.Mend.spread.Goals as goal

pub take-requires-clause-there : goal.take-requires-clause-there
take-requires-clause-there g c =
    let s' : State = state_of (record { tree = c.loop-way.self.tree; queue = c.pop.new.self; cut = c.loop-way.self.cut }) in
    way_there c.args.net.now c.args.root.0 (state_of c.loop-way.self) s' c.in-Some.field-0.0 c.loop-way.invariant.growing c.in-Some.ensures.permutation refl

pub take-requires-clause-growing : goal.take-requires-clause-growing
take-requires-clause-growing g c =
    let s' : State = state_of (record { tree = c.loop-way.self.tree; queue = c.pop.new.self; cut = c.loop-way.self.cut }) in
    popped c.args.net.now c.args.root.0 (state_of c.loop-way.self) s' c.in-Some.field-0.0 c.loop-way.invariant.growing c.in-Some.ensures.permutation refl

pub loop-way-preserved : goal.loop-way-preserved
loop-way-preserved g c = record { growing = c.in_ok-take.ensures.growing; none_cut = c.in_ok-take.ensures.cut ∙ c.loop-way.invariant.none_cut }

pub loop-way-smaller : goal.loop-way-smaller
loop-way-smaller g c =
    let s' : State = state_of (record { tree = c.loop-way.self.tree; queue = c.pop.new.self; cut = c.loop-way.self.cut }) in
    omega (
      arith,
      c.in_ok-take.ensures.less,
      shorter c.args.net.now c.args.root.0
          (state_of c.loop-way.self) s' c.in-Some.field-0.0 c.loop-way.invariant.growing c.in-Some.ensures.permutation refl,
    )

pub returns : goal.returns
returns g c =
    let s' : State = state_of (record { tree = c.loop-way.self.tree; queue = c.pop.new.self; cut = c.loop-way.self.cut }) in
    record {
      stands = retargeted c.args.net.now c.args.root.0 NoRest (state_of c.loop-way.self) s' refl c.in_default.ensures.unchanged.0 c.loop-way.invariant.growing;
      no_ways = c.in_default.ensures.unchanged.0 ∙ no_items _ (omega (arith, c.loop-way.self.queue.data.ok.0, c.in_default.ensures.none));
      none_cut = c.loop-way.invariant.none_cut;
    }
