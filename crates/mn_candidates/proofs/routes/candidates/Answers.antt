use Rattle.std.proofs.Common.{◌<◌, ◌≡◌, ◌∙◌, sym, ap, subst, map, take, length, get_or, rules}
use Rattle.std.specs.List.{insert, position_or_len}
use Rattle.mn_ledger.specs.Held.{is_better}
use Rattle.mn_candidates.specs.Routes.{held_as, AreFor}
use Rattle.mn_candidates.proofs.Choosing.{next_passed, next_put}
use Rattle.mn_candidates.proofs.routes.candidates.Goals as goal
use Rattle.mn_candidates.proofs.routes.candidates.Goals.{then-covers+in_ok-insert, else-covers}

pub loop-route-preserved : goal.loop-route-preserved
loop-route-preserved c =
    let below : c.loop-route.route-index < length c.args.routes.now = search rules in
    let is : get_or c.args.routes.now c.loop-route.route-index c.route-item.result ≡ c.route-item.result = search rules in
    elim c.if-covers.branch [
      | then-covers+in_ok-insert w ↦
          next_put c.args.address c.args.routes.now c.loop-route.found.items c.if-covers.found.items c.loop-route.route-index c.route-item.result below is
          (sym c.covers.ensures ∙ w.if-covers.true) c.loop-route.invariant
          (ap (λ v. v.items) w.found-is ∙ w.in_ok-insert.ensures.items ∙ ap (λ k. insert c.loop-route.found.items k c.route-item.result)
          (w.place_among-place.ensures.place
          ∙ ap (position_or_len (λ other. is_better (held_as c.route-item.result) (held_as other))) w.as_slice.ensures.value))
      | else-covers w ↦ next_passed c.args.address c.args.routes.now c.if-covers.found.items c.loop-route.route-index c.route-item.result below is
          (sym c.covers.ensures ∙ w.if-covers.false)
          (subst (λ v. AreFor c.args.address (map held_as (take c.loop-route.route-index c.args.routes.now)) (map held_as v.items))
          (sym w.found-is) c.loop-route.invariant)
    ]
