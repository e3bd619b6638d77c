-- Where all numbers in flight are below a bound, they are below the next once a step has made a frame of this number, or none.
use Rattle.std.proofs.Common.{ℕ, ◌+◌, ◌<◌, Bool, true, false, List, arith, sym, subst, get_or}
use Rattle.std.specs.Prelude.{◌==◌, not, Option}
use Rattle.std.specs.List.{All}
use Rattle.std.proofs.lemmas.List.Elements.{All-filter, All-push}
use Rattle.mn_wiring.specs.Wiring.{link}
use Rattle.mn_flight.specs.declared.Item.{Item}
use Rattle.mn_flight.specs.Flying.{off_channel, without}
use Rattle.mn_topo.specs.Network.{Network, wiring_of}
use Rattle.mn_ledger.specs.Packets.{channel}
use Rattle.mn_transit.specs.declared.flown.Flown.{Flown}
use Rattle.mn_transit.specs.Stands.{Makes}
use Rattle.mn_transit.proofs.Taking.{holds_left}

abbrev pub Below : ℕ → List (Item Flown) → Type 0
Below n items = All (λ item. item.number < n) items

below_next : (n : ℕ) (items : List (Item Flown)) → Below n items → Below (n + 1) items
below_next n items below k d p = let low : (get_or items k d).number < n = below k d p in omega (arith, low)

pub below_made : (t : Network) (tick n : ℕ) (before after : List (Item Flown)) (made : Bool) → Makes t tick n before after made → Below n before →
    Below (n + 1) after
below_made t tick n before after false is below = subst (Below (n + 1)) (sym is) (below_next n before below)
below_made t tick n before after true is below =
    subst (Below (n + 1)) (sym is.3)
    (All-push (λ (item : Item Flown). item.number < n + 1) before (record {
      channel = channel is.0 is.1;
      due =
          tick + (link (wiring_of t) is.0).delay;
      number = n;
      item = is.2;
    })
    (below_next n before below) (omega arith))

-- nor does one come to be above it that goes
pub below_left : (n : ℕ) (items : List (Item Flown)) (taken : Option (Item Flown)) → Below n items → Below n (without taken items)
below_left n items taken below = holds_left (λ (item : Item Flown). item.number < n) items taken below

pub below_off : (n at : ℕ) (items : List (Item Flown)) → Below n items → Below n (off_channel at items)
below_off n at items below = All-filter (λ (item : Item Flown). not (item.channel == at)) (λ (item : Item Flown). item.number < n) items below
