use Rattle.mn_vrf.specs.Vrf.{VrfState}
use Rattle.mn_pe.specs.Switched.{after_over}
use Rattle.mn_pe.proofs.Places.{held_again}
use Rattle.mn_pe.proofs.switching.attach_from.Goals as goal

-- the other VRF holds what the statics over the site make of what it held
pub returns : goal.returns
returns c = λ d.
    held_again (λ (u : VrfState) ks. after_over c.args.on c.args.site.0 c.args.source ks u.statics) c.args.vrfs.now.items c.args.at c.args.to d
    c.index_mut.result.now c.take_held-held.new.self c.index.result.now c.index_mut-2.result.now c.hold.new.self c.requires.there c.requires.here
    c.index_mut.ensures.value c.take_held-held.ensures.left c.index.ensures c.index_mut-2.ensures.value c.take_held-held.result c.turn_over.new.held
    c.take_held-held.ensures.all c.in_ok-turn_over.ensures c.hold.ensures
