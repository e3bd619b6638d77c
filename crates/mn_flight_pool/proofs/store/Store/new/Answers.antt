use Rattle.std.proofs.Common.{◌≡◌, length, arith, ap, sym, ◌∙◌}
use Rattle.mn_flight_pool.proofs.Firsts.{links_many}
use Rattle.mn_flight_pool.proofs.store.Store.new.Goals as goal

pub invariant_of-result : goal.invariant_of-result
invariant_of-result g c =
    let none : length c.new.result.items ≡ 0 = ap (λ l. length l) c.new.ensures.items in
    let many : length c.in_ok-alone.field-0.items ≡ c.args.channels = ap (λ l. length l) c.in_ok-alone.ensures ∙ links_many c.args.channels in
    (omega (arith, none, many), ap (λ l. length l) c.new.ensures.items ∙ sym (ap (λ l. length l) c.new-2.ensures.items))
