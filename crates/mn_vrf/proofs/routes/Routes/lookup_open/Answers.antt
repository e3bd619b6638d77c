use Rattle.std.proofs.Common.{arith, ◌-◌, sym, ◌∙◌}
use Rattle.mn_vrf.proofs.Opening.{found_there, none_there}
use Rattle.mn_vrf.proofs.routes.Routes.lookup_open.Goals as goal

pub returns-then-is_some : goal.returns-then-is_some
returns-then-is_some c =
    found_there c.self.inside.table c.self.inside.prefixes.keys c.args.self.now c.self.view_is c.self.invariant c.args.ways.now c.args.address
    (32 - c.loop-shorter.shorter) c.at_length-found.ensures.formed
    (λ n longer short. c.loop-shorter.invariant.none n (omega (arith, longer, c.loop-shorter-test.true)) short) c.at_length-found.result
    c.at_length-found.ensures.found (sym c.is_some.ensures ∙ c.if-is_some.true)

pub returns : goal.returns
returns c =
    none_there c.self.inside.table c.self.inside.prefixes.keys c.args.self.now c.self.view_is c.self.invariant c.args.ways.now c.args.address
    (c.loop-shorter.invariant.formed (omega (arith, c.loop-shorter-test.false)))
    (λ n short. c.loop-shorter.invariant.none n (omega (arith, c.loop-shorter-test.false)) short)
