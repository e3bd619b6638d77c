-- Routes stand in an order.
use Rattle.std.proofs.Common.{ℕ, ◌≡◌, Bool, true, false, refl}
use Rattle.std.specs.Prelude.{nat_lt, ◌==◌, ◌||◌, ◌&&◌}
use Rattle.mn_prefix.specs.Prefix.{AddressBlock}
use Rattle.mn_base.specs.Ordered.{first_by, IsOrder}
use Rattle.mn_base.proofs.Orders.{by_number, by_number_then, order_same}
use Rattle.mn_vrf.specs.declared.source.Source.{Source}
use Rattle.mn_vrf.specs.declared.source.Source.TheVariants.{Own, Near, Far}
use Rattle.mn_vrf.specs.Routes.{source_before, route_before}
use Rattle.mn_vrf.specs.Vrf.{Static, static_before}

kind : Source → ℕ
kind (Own s) = 0
kind (Near v s) = 1
kind (Far a d e l) = 2

major : Source → ℕ
major (Own s) = 0
major (Near v s) = v.0
major (Far a d e l) = a

minor : Source → ℕ
minor (Own s) = 0
minor (Near v s) = 0
minor (Far a d e l) = d.0

by_keys : (s r : Source) → source_before s r ≡ first_by (kind s) (kind r) (first_by (major s) (major r) (nat_lt (minor s) (minor r)))
unfolding kind major minor
by_keys (Own s) (Own r) = refl
by_keys (Own s) (Near v r) = refl
by_keys (Own s) (Far a d e l) = refl
by_keys (Near v s) (Own r) = refl
by_keys (Near v s) (Near w r) = only_less (nat_lt v.0 w.0) (v.0 == w.0)
  where
    only_less : (a b : Bool) → a ≡ (a || (b && false))
    only_less true b = refl
    only_less false true = refl
    only_less false false = refl
by_keys (Near v s) (Far a d e l) = refl
by_keys (Far a d e l) (Own r) = refl
by_keys (Far a d e l) (Near w r) = refl
by_keys (Far a d e l) (Far b r f m) = refl

pub source_order : IsOrder source_before
source_order =
    order_same source_before (λ (x y : Source). first_by (kind x) (kind y) (first_by (major x) (major y) (nat_lt (minor x) (minor y)))) by_keys
    (by_number_then kind (λ x y. first_by (major x) (major y) (nat_lt (minor x) (minor y)))
    (by_number_then major (λ x y. nat_lt (minor x) (minor y)) (by_number minor)))

pub route_order : IsOrder route_before
route_order =
    by_number_then (λ (x : AddressBlock × Source). x.0.address) (λ x y. first_by x.0.length y.0.length (source_before x.1 y.1))
    (by_number_then (λ (x : AddressBlock × Source). x.0.length) (λ x y. source_before x.1 y.1)
    (order_same (λ (x y : AddressBlock × Source). source_before x.1 y.1)
    (λ x y. first_by (kind x.1) (kind y.1) (first_by (major x.1) (major y.1) (nat_lt (minor x.1) (minor y.1)))) (λ x y. by_keys x.1 y.1)
    (by_number_then (λ (x : AddressBlock × Source). kind x.1) (λ x y. first_by (major x.1) (major y.1) (nat_lt (minor x.1) (minor y.1)))
    (by_number_then (λ (x : AddressBlock × Source). major x.1) (λ x y. nat_lt (minor x.1) (minor y.1))
    (by_number (λ (x : AddressBlock × Source). minor x.1))))))

pub static_order : IsOrder static_before
static_order = by_number_then (λ (x : Static). x.prefix.address) (λ x y. nat_lt x.prefix.length y.prefix.length) (by_number (λ (x : Static). x.prefix.length))
