use Rattle.std.proofs.Common.{sym, ◌∙◌, ap}
use Rattle.mn_base.proofs.Bools.{other_test}
use Rattle.mn_topo.specs.Network.{wiring_of}
use Rattle.mn_reach.specs.Reaching.{Reaching}
use Rattle.mn_reach.proofs.Left.{agrees, over, told_joined}
use Rattle.mn_reach.proofs.reach.Reach.is_told.Goals as goal

pub returns-else-not-self : goal.returns-else-not-self
returns-else-not-self c = λ t of.
    let ways = c.self.inside.ways in
    let now = c.args.self.now in
    let same = agrees now ways _ _ _ _ _ _ _ _ (sym c.self.view_is) c.self.invariant in
    told_joined t now of ways same c.args.home.0 c.requires.here c.args.candidate c.requires.placed c.is_ended.result c.is_joined.result
    (other_test _ _ c.if-edge-home.false) c.is_ended.ensures c.if-not-is_ended.true (sym (ap (λ (r : Reaching). r.ends) c.self.view_is) ∙ c.if-not-self.false)
    (c.is_joined.ensures (wiring_of t) (over t now of ways same))
