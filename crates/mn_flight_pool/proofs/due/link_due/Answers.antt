use Rattle.std.proofs.Common.{◌≡◌, ℕ, true, sym, ap, ◌∙◌, subst}
use Rattle.mn_flight_pool.specs.Rings.{room_at, next_of}
use Rattle.mn_flight_pool.specs.Ticks.{last_by}
use Rattle.mn_flight_pool.specs.declared.node.Pair.TheVariants.{Due}
use Rattle.mn_flight_pool.proofs.due.link_due.Goals as goal

pub link_behind-requires-clause-next : goal.link_behind-requires-clause-next
link_behind-requires-clause-next g c =
    subst (λ (p : ℕ). room_at c.args.store.now (next_of Due c.args.store.now p) ≡ true)
    (sym (c.last_due_by-at.ensures ∙ ap (λ ts. last_by c.args.due c.args.head.index ts) c.deref.ensures.value)) c.requires.next
