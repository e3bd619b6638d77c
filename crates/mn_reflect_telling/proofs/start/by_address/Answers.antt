use Rattle.mn_reflect_telling.proofs.Addresses.{one_put}
use Rattle.mn_reflect_telling.proofs.start.by_address.Goals as goal

pub loop-done-preserved : goal.loop-done-preserved
loop-done-preserved c =
    let put = one_put c.args.topology.now c.args.reflectors.now c.loop-done.nodes.items c.insert.new.self.items c.deref.result.now c.place_of-place.result
    c.loop-done.done _
    c.loop-done-test.true c.requires c.deref.ensures.value c.loop-done.invariant.nodes c.loop-done.invariant.there c.place_of-place.ensures.place
    c.in_ok-insert.ensures.items in
    record { nodes = put.0; there = put.1 }
