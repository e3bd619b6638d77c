use Rattle.std.proofs.Common.{sym, ap, ◌∙◌, arith}
use Rattle.std.specs.Option.{option_copied}
use Rattle.mn_flight_pool.specs.Rings.{item_at}
use Rattle.mn_flight_pool.proofs.Nodes.{within_now, item_read, no_item, below}
use Rattle.mn_flight_pool.proofs.store.Store.item.Goals as goal

pub returns-in_err-place : goal.returns-in_err-place
returns-in_err-place g c =
    ap option_copied c.from_residual.ensures
    ∙ sym (ap (λ l. item_at l c.args.at.index) (sym c.self.view_is)
    ∙ no_item c.self.inside.firsts c.self.inside.channel.items c.self.inside.due.items c.self.inside.items.items c.args.at.index
    (below c.args.at.index c.self.inside.firsts (c.in_err-place.ensures)))

pub index-requires : goal.index-requires
index-requires g c =
    omega (
      arith,
      within_now c.self.inside.firsts c.self.inside.channel.items c.self.inside.due.items c.self.inside.items.items c.args.self.now c.self.view_is
          c.args.at.index c.requires,
      c.self.invariant.0,
      c.self.invariant.1,
      c.self.inside.items.ok.0,
      c.in_ok-place.ensures,
    )

pub returns : goal.returns
returns g c =
    c.as_ref.ensures.value
    ∙ item_read c.self.inside.firsts c.self.inside.channel.items c.self.inside.due.items c.self.inside.items.items c.args.self.now c.self.view_is
    c.self.invariant.0 c.self.invariant.1 c.args.at.index c.in_ok-place.place c.index.result.now
    (omega (arith, c.in_ok-place.ensures)) (omega (
      arith,
      within_now c.self.inside.firsts c.self.inside.channel.items c.self.inside.due.items c.self.inside.items.items c.args.self.now c.self.view_is
          c.args.at.index c.requires,
      c.self.invariant.0,
      c.self.invariant.1,
      c.in_ok-place.ensures,
    )) c.index.ensures
