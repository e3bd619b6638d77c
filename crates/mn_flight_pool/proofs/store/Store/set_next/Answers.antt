use Rattle.std.proofs.Common.{◌-◌, arith, subst, sym, ap, ◌∙◌}
use Rattle.mn_flight_pool.specs.Rings.{set_next, CanStand}
use Rattle.mn_flight_pool.specs.declared.node.Pair.{Pair}
use Rattle.mn_flight_pool.proofs.Nodes.{within_now, roomy_now, put_channel_next, put_due_next, value_read}
use Rattle.mn_flight_pool.proofs.store.Store.set_next.Goals as goal

pub index_mut-requires : goal.index_mut-requires
index_mut-requires g c = omega (
  arith,
  within_now c.self.inside.firsts c.self.inside.channel.items c.self.inside.due.items c.self.inside.items.items
      c.args.self.now c.self.view_is c.args.at.index (subst (λ (p : Pair). CanStand p c.args.self.now c.args.at.index) c.in-Channel.is c.requires),
  c.self.inside.channel.ok.0,
)

pub returns-in-Channel : goal.returns-in-Channel
returns-in-Channel g c =
    put_channel_next c.self.inside.firsts c.self.inside.channel.items c.self.inside.due.items c.self.inside.items.items c.args.self.now c.self.view_is
    c.args.at.index c.index_mut.result.now c.args.to
    (value_read c.args.at.index c.index_mut.result.now c.self.inside.channel.items
    (within_now c.self.inside.firsts c.self.inside.channel.items c.self.inside.due.items c.self.inside.items.items c.args.self.now c.self.view_is
    c.args.at.index (subst (λ (p : Pair). CanStand p c.args.self.now c.args.at.index) c.in-Channel.is c.requires)) c.index_mut.ensures.value)
    ∙ ap (λ (p : Pair). set_next p c.args.at.index c.args.to.index c.args.self.now) (sym c.in-Channel.is)

pub overflow_sub-place : goal.overflow_sub-place
overflow_sub-place g c =
    let r = roomy_now c.self.inside.firsts c.self.inside.channel.items c.self.inside.due.items c.self.inside.items.items c.args.self.now c.self.view_is
    c.args.at.index (subst (λ (p : Pair). CanStand p c.args.self.now c.args.at.index) c.in-Due.is c.requires) in omega (arith, r.0)

pub index_mut-requires-in-Due : goal.index_mut-requires-in-Due
index_mut-requires-in-Due g c =
    let r = roomy_now c.self.inside.firsts c.self.inside.channel.items c.self.inside.due.items c.self.inside.items.items c.args.self.now c.self.view_is
    c.args.at.index (subst (λ (p : Pair). CanStand p c.args.self.now c.args.at.index) c.in-Due.is c.requires) in
    omega (arith, r.0, r.1, c.self.invariant.1, c.self.inside.due.ok.0)

pub returns-in-Due : goal.returns-in-Due
returns-in-Due g c =
    let can = (subst (λ (p : Pair). CanStand p c.args.self.now c.args.at.index) c.in-Due.is c.requires) in
    let r = roomy_now c.self.inside.firsts c.self.inside.channel.items c.self.inside.due.items c.self.inside.items.items c.args.self.now c.self.view_is
    c.args.at.index can in
    let k = c.args.at.index - c.self.inside.firsts in
    put_due_next c.self.inside.firsts c.self.inside.channel.items c.self.inside.due.items c.self.inside.items.items c.args.self.now c.self.view_is
    c.args.at.index k c.index_mut-in-Due.result.now can (omega (arith, r.0))
    (value_read k c.index_mut-in-Due.result.now c.self.inside.due.items (omega (arith, r.0, r.1, c.self.invariant.1)) c.index_mut-in-Due.ensures.value)
    c.args.to
    ∙ ap (λ (p : Pair). set_next p c.args.at.index c.args.to.index c.args.self.now) (sym c.in-Due.is)
