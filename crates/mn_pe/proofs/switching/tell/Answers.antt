use Rattle.mn_vrf.specs.Vrf.{VrfState}
use Rattle.mn_pe.specs.Switched.{after_statics}
use Rattle.mn_pe.proofs.Places.{held_again}
use Rattle.mn_pe.proofs.switching.tell.Goals as goal

-- the other VRF holds what the statics make of what it held
pub returns : goal.returns
returns c = λ d.
    held_again (λ (u : VrfState) ks. after_statics c.args.on u.number c.args.labels.now ks u.statics) c.args.vrfs.now.items c.args.at c.args.to d
    c.index_mut.result.now c.take_held-held.new.self c.index.result.now c.index_mut-2.result.now c.hold.new.self c.requires.there c.requires.here
    c.index_mut.ensures.value c.take_held-held.ensures.left c.index.ensures c.index_mut-2.ensures.value c.take_held-held.result c.turn_statics.new.held
    c.take_held-held.ensures.all c.in_ok-turn_statics.ensures c.hold.ensures
