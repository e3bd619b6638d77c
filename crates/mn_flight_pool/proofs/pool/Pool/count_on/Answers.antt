use Rattle.std.proofs.Common.{◌<◌, ◌≤◌, length, ap, ◌∙◌, subst, get_or, ℕ, List}
use Rattle.mn_flight_pool.proofs.Whole.{count_there, count_none}
use Rattle.mn_flight_pool.proofs.pool.Pool.count_on.Goals as goal

pub returns-in-Some : goal.returns-in-Some
returns-in-Some g c =
    let at = c.in-Some.ensures.lookup.3 in
    c.from.ensures
    ∙ count_there c.args.self.now c.requires c.args.channel c.in-Some.count.now (subst (λ (l : List ℕ). c.args.channel < length l) c.deref.ensures.value at.0)
    (at.1 0 ∙ ap (λ (l : List ℕ). get_or l c.args.channel 0) c.deref.ensures.value)

pub returns-in-None : goal.returns-in-None
returns-in-None g c =
    count_none c.args.self.now c.requires c.args.channel
    (subst (λ (l : List ℕ). length l ≤ c.args.channel) c.deref.ensures.value c.in-None.ensures.lookup.3)
