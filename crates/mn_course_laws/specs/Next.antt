-- What comes next, in words: an item in flight that no other comes before, the first on its channel, which can be delivered.
use Rattle.std.specs.Prelude.{◌≡◌, ◌≤◌, ℕ, ◌+◌, true, false, List, Option, Some, None}
use Rattle.std.specs.List.{Contains}
use Rattle.mn_topo.specs.Network.{Network}
use Rattle.mn_topo.specs.declared.steps.JournalEntry.{JournalEntry}
use Rattle.mn_ledger.specs.Items.{Item, flight_of}
use Rattle.mn_ledger.specs.OneMore.{tick_from}
use Rattle.mn_ledger_laws.specs.Flight.{delivering, IsOpen}
use Rattle.mn_course_laws.specs.declared.coming.Kind.{Kind}
use Rattle.mn_course_laws.specs.declared.coming.Coming.{Coming}
use Rattle.mn_course_laws.specs.Coming.{is_due, is_due_before, is_lost, delivery}

-- of the items of a kind that are due by the limit it is the one that none comes before
pub record IsLeast (kind : Kind) (limit : ℕ) (items : List Item) (item : Item) : Type 0 where
  pub there : Contains items item
  pub in_time : is_due kind limit item ≡ true
  pub least : (other : Item) → Contains items other → is_due kind limit other ≡ true → is_due_before other.due other.number item.due item.number ≡ false

-- this comes next: it is the least item, at place 0 of its channel; it is due within 1,000 ticks of the last step; and nothing but
-- a full journal refuses the step that delivers it
pub record ComesNext (topology : Network) (entries : List JournalEntry) (inputs : List (List ℕ)) (kind : Kind) (limit : ℕ) (coming : Coming) : Type 0 where
  pub item : Item
  pub least : IsLeast kind limit (flight_of topology entries inputs).items item
  pub due : coming.due ≡ item.due
  pub number : coming.number ≡ item.number
  pub step : coming.step ≡ delivering topology item.on 0
  pub lossy : coming.lossy ≡ is_lost topology entries inputs item.on item
  pub soon : coming.due ≤ tick_from 0 entries + 1000
  pub delivered : IsOpen topology entries inputs (delivery coming)

-- the tick at which the first that is due by the limit comes, and the one after the limit where none is
abbrev pub first_due : ℕ → Option Coming → ℕ
first_due limit None = limit + 1
first_due limit (Some coming) = coming.due

-- nothing comes exactly where no item of the kind is due by the limit
abbrev pub IsNext : Network → List JournalEntry → List (List ℕ) → Kind → ℕ → Option Coming → Type 0
IsNext topology entries inputs kind limit None = (item : Item) → Contains (flight_of topology entries inputs).items item → is_due kind limit item ≡ false
IsNext topology entries inputs kind limit (Some coming) = ComesNext topology entries inputs kind limit coming
