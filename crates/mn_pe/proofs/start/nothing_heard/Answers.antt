use Rattle.std.proofs.Common.{ℕ, List, [], get_or}
use Rattle.std.proofs.lemmas.List.{get_or_default}
use Rattle.mn_rib_in.specs.Heard.{Heard}
use Rattle.mn_pe.proofs.Walks.{took, took_all}
use Rattle.mn_pe.proofs.start.nothing_heard.Goals as goal

pub loop-loopback-preserved : goal.loop-loopback-preserved
loop-loopback-preserved c =
    took (λ (loopback : ℕ). let none : List Heard = [] in none) c.args.loopbacks.now c.loop-loopback._loopback-index
    (get_or c.args.loopbacks.now c.loop-loopback._loopback-index 0) c.loop-loopback.out.items c.push.new.self.items c.new.result
    c.loop-loopback-test.true (get_or_default c.args.loopbacks.now c.loop-loopback._loopback-index 0
    (get_or c.args.loopbacks.now c.loop-loopback._loopback-index 0) c.loop-loopback-test.true) c.loop-loopback.invariant c.new.ensures
    c.in_ok-push.ensures.items

pub returns : goal.returns
returns c = took_all (λ (loopback : ℕ). let none : List Heard = [] in none) c.args.loopbacks.now c.loop-loopback._loopback-index c.loop-loopback.out.items
    c.loop-loopback-test.false c.loop-loopback.invariant
