-- What the code does with both ends of a link, and the numbers of what flies.
use Rattle.std.proofs.Common.{ℕ, ◌≡◌, ◌+◌, ◌-◌, ◌*◌, ◌<◌, ◌≤◌, Bool, true, false, not, List, length, arith, sym, subst, Option, None, Some, get_or}
use Rattle.std.specs.Prelude.{◌==◌, Result, Ok, Err, OnOk}
use Rattle.std.specs.List.{All}
use Rattle.std.proofs.lemmas.List.Elements.{All-filter}
use Rattle.mn_wiring.specs.Wiring.{link}
use Rattle.mn_flight.specs.declared.Item.{Item}
use Rattle.mn_flight.specs.Flying.{off_channel, without}
use Rattle.mn_linkdb.specs.Changes.{is_link_up}
use Rattle.mn_topo.specs.Network.{Network, wiring_of}
use Rattle.mn_node.specs.Machine.{Event}
use Rattle.mn_transport_laws.specs.Carried.{Carried}
use Rattle.mn_transport_laws.specs.Sending.{off_link}
use Rattle.mn_transport_laws.specs.Acting.{turned_by, Acts}
use Rattle.mn_transport_laws.specs.Doing.{TurnsEnds, TurnsIf, told, TurnsLink, switched, Switches}

-- the numbers of what is made are no less than the first
acts-grow : (t : Network) (tick number node : ℕ) (event : Event) (old new : Carried) (next : ℕ) → Acts t tick number node event old new next → number ≤ next
acts-grow t tick number node event old new next acts = let n = acts.next_is in omega (arith, n)

pub ends-grow : (t : Network) (tick number l : ℕ) (event : Event) (old new : Carried) (next : ℕ) → TurnsEnds t tick number l event old new next → number ≤ next
ends-grow t tick number l event old new next turns =
    let first = acts-grow t tick number (link (wiring_of t) l).a.0 event old turns.middle turns.second_number turns.first in
    let second = acts-grow t tick turns.second_number (link (wiring_of t) l).b.0 event turns.middle new next turns.second in
    omega (arith, first, second)

if-grow : (on : Bool) (t : Network) (tick number l : ℕ) (event : Event) (old new : Carried) (next : ℕ) → TurnsIf on t tick number l event old new next →
    number ≤ next
if-grow true t tick number l event old new next turns = ends-grow t tick number l event old new next turns
if-grow false t tick number l event old new next turns = let n = turns.1 in omega (arith, n)

pub link-grows : (t : Network) (tick number l : ℕ) (up : Bool) (old new : Carried) (next : ℕ) → TurnsLink t tick number l up old new next → number ≤ next
link-grows t tick number l up old new next turns =
    let more = if-grow turns.on t tick (number + length t.loopbacks) l (turned_by up l) (told t tick number l old) new next turns.session in omega (arith, more)

pub switch-grows : (t : Network) (tick number l : ℕ) (on : Bool) (old new : Carried) (next : ℕ) → Switches t tick number l on old new next → number ≤ next
switch-grows t tick number l on old new next turns = if-grow (is_link_up old.changes l) t tick number l (turned_by on l) (switched l on old) new next turns

-- numbers below one are below a greater one
pub below-more : {T : Type 0} (items : List (Item T)) (number next : ℕ) → number ≤ next → All (λ item. item.number < number) items →
    All (λ item. item.number < next) items
below-more items number next more below = λ k d p. let low : (get_or items k d).number < number = below k d p in omega (arith, low, more)

-- and what is made is that many
pub below-made : {T : Type 0} (items : List (Item T)) (number next : ℕ) → number ≤ next → All (λ item. item.number < next) items →
    All (λ item. item.number < number + (next - number)) items
below-made items number next more below = λ k d p. let low : (get_or items k d).number < next = below k d p in omega (arith, low, more)

-- what stays in flight has the numbers that it had
pub below-without : {T : Type 0} (taken : Option (Item T)) (items : List (Item T)) (number : ℕ) → All (λ item. item.number < number) items →
    All (λ item. item.number < number) (without taken items)
below-without None items number below = below
below-without {T} (Some x) items number below = All-filter (λ (item : Item T). not (item.number == x.number)) (λ item. item.number < number) items below

pub below-taken : {T : Type 0} (taken : Option (Item T)) (items left : List (Item T)) (number : ℕ) → left ≡ without taken items →
    All (λ item. item.number < number) items → All (λ item. item.number < number) left
below-taken {T} taken items left number is below = subst (All (λ (item : Item T). item.number < number)) (sym is) (below-without taken items number below)

pub below-cut : (l : ℕ) (items left : List (Item (List ℕ))) (number : ℕ) → left ≡ off_link l items → All (λ item. item.number < number) items →
    All (λ item. item.number < number) left
below-cut l items left number is below =
    subst (All (λ (item : Item (List ℕ)). item.number < number)) (sym is)
    (All-filter (λ (item : Item (List ℕ)). not (item.channel == 2 * l + 1)) (λ item. item.number < number) (off_channel (2 * l) items)
    (All-filter (λ (item : Item (List ℕ)). not (item.channel == 2 * l)) (λ item. item.number < number) items below))

pub always : {T E P : Type 0} (r : Result T E) → P → OnOk r P
always (Ok x) p = p
always (Err e) p = tt
