use Rattle.std.proofs.Common.{◌<◌, ◌∷◌, [], length, refl, sym, ap, subst, arith}
use Rattle.std.specs.Prelude.{All}
use Rattle.mn_base.specs.declared.numbers.NodeNo.{NodeNo}
use Rattle.mn_spf_inc.specs.Mending.{State, state_of, NoRest}
use Rattle.mn_spf_inc.proofs.Places.{taken, none_left, retargeted}
use Rattle.mn_spf_inc.proofs.Ends.{no_items, all_left, all_last}
use Rattle.mn_spf_inc.proofs.mend.Mend.rejoin.Goals as goal

pub reach-requires-clause-there : goal.reach-requires-clause-there
reach-requires-clause-there g c =
    all_last (λ (n : NodeNo). n.0 < c.args.net.now.nodes) c.pop.new.self.items c.in-Some.node
    (subst (All (λ (n : NodeNo). n.0 < c.args.net.now.nodes)) c.in-Some.ensures.items c.loop-node.invariant.there)

pub reach-requires-clause-growing : goal.reach-requires-clause-growing
reach-requires-clause-growing g c =
    let s' : State = state_of (record { tree = c.loop-node.self.tree; queue = c.loop-node.self.queue; cut = c.pop.new.self }) in
    taken c.args.net.now c.args.root.0 c.loop-node.self.cut.items c.pop.new.self.items c.in-Some.node
    (state_of c.loop-node.self) s' c.in-Some.ensures.items refl refl c.loop-node.invariant.growing

pub loop-node-preserved : goal.loop-node-preserved
loop-node-preserved g c =
    record {
      growing = c.in_ok-reach.ensures.growing;
      there = subst (All (λ (n : NodeNo). n.0 < c.args.net.now.nodes)) (sym c.in_ok-reach.ensures.cut)
          (all_left (λ (n : NodeNo). n.0 < c.args.net.now.nodes) c.pop.new.self.items (c.in-Some.node ∷ [])
          (subst (All (λ (n : NodeNo). n.0 < c.args.net.now.nodes)) c.in-Some.ensures.items c.loop-node.invariant.there));
    }

pub loop-node-smaller : goal.loop-node-smaller
loop-node-smaller g c = omega (arith, c.in-Some.ensures.cases, ap length c.in_ok-reach.ensures.cut, c.reach.new.self.cut.ok.0, c.pop.new.self.ok.0)

pub spread-requires-clause-growing : goal.spread-requires-clause-growing
spread-requires-clause-growing g c =
    let s' : State = state_of (record { tree = c.loop-node.self.tree; queue = c.loop-node.self.queue; cut = c.pop.new.self }) in
    retargeted c.args.net.now c.args.root.0 NoRest (state_of c.loop-node.self) s' refl refl
    (none_left c.args.net.now c.args.root.0 c.loop-node.self.cut.items (state_of c.loop-node.self)
    (no_items _ (omega (arith, c.loop-node.self.cut.ok.0, c.in_default.ensures.cases.0))) c.loop-node.invariant.growing)

pub spread-requires-clause-none_cut : goal.spread-requires-clause-none_cut
spread-requires-clause-none_cut g c = no_items _ (omega (arith, c.pop.new.self.ok.0, c.in_default.ensures.cases.1))
