-- Routes that are kept can be passed on.
use Rattle.std.proofs.Common.{ℕ, zero, suc, Bool, true, false, List, [], ◌∷◌, Some}
use Rattle.std.specs.Prelude.{◌||◌, if◌then◌else◌, slice_index_or}
use Rattle.std.specs.List.{AllByRecursion}
use Rattle.mn_prefix.specs.Prefix.{AddressBlock}
use Rattle.mn_topo.specs.Network.{Network}
use Rattle.mn_offers.specs.Heard.{Heard, heard_before, place_of, heard_at}
use Rattle.mn_reflect_telling.specs.Passing.{IsPassable, IfPassable}

pub found_passes : (t : Network) (v : ℕ) (p : AddressBlock) (routes : List Heard) → AllByRecursion (IsPassable t) routes → IfPassable t (heard_at v p routes)
found_passes t v p [] h = tt
found_passes t v p (r ∷ rs) h = by (heard_before r (place_of v p) || heard_before (place_of v p) r) (found_passes t v p rs h.1)
  where
    by : (b : Bool) → IfPassable t (heard_at v p rs) → IfPassable t (if b then heard_at v p rs else Some r)
    by true more = more
    by false more = h.0

pub row_passes : (t : Network) (heard : List (List Heard)) (k : ℕ) → AllByRecursion (λ routes. AllByRecursion (IsPassable t) routes) heard →
    AllByRecursion (IsPassable t) (slice_index_or heard k [])
row_passes t [] k h = tt
row_passes t (r ∷ rs) zero h = h.0
row_passes t (r ∷ rs) (suc k) h = row_passes t rs k h.1
