-- Routes that were received stand in an order.
use Rattle.std.specs.Prelude.{nat_lt}
use Rattle.mn_base.specs.Ordered.{first_by, IsOrder}
use Rattle.mn_base.proofs.Orders.{by_number, by_number_then}
use Rattle.mn_rib_in.specs.Heard.{Heard, heard_before}

pub heard_order : IsOrder heard_before
heard_order =
    by_number_then (λ (x : Heard). x.rd.0) (λ x y. first_by x.prefix.address y.prefix.address (nat_lt x.prefix.length y.prefix.length))
    (by_number_then (λ (x : Heard). x.prefix.address) (λ x y. nat_lt x.prefix.length y.prefix.length) (by_number (λ (x : Heard). x.prefix.length)))
