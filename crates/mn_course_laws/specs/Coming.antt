-- What comes next: of the items in flight the one of least due tick and, among these, of least number; and the step that delivers it.
use Rattle.std.specs.Prelude.{ℕ, zero, suc, ◌+◌, ◌^◌, ◌==◌, ◌%◌, ◌&&◌, ◌||◌, Bool, true, false, nat_lt, nat_le, if◌then◌else◌, List, [], ◌∷◌, filter}
use Rattle.std.specs.Prelude.{length, Option, Some, None}
use Rattle.mn_wiring.specs.Wiring.{link}
use Rattle.mn_topo.specs.Network.{Network, wiring_of}
use Rattle.mn_topo.specs.declared.steps.Step.{Step}
use Rattle.mn_topo.specs.declared.steps.Step.TheVariants.{Carry, Lose}
use Rattle.mn_topo.specs.declared.steps.JournalEntry.{JournalEntry}
use Rattle.mn_ledger.specs.Items.{Channel, Notices, Messages, Routes, Frames, Item, same_channel, flight_of}
use Rattle.mn_ledger_laws.specs.Flight.{delivering}
use Rattle.mn_ledger_laws.specs.Ids.{frame_number}
use Rattle.mn_course_laws.specs.declared.coming.Kind.{Kind}
use Rattle.mn_course_laws.specs.declared.coming.Kind.TheVariants.{Notice, Message, Frame}
use Rattle.mn_course_laws.specs.declared.coming.Coming.{Coming}
use Rattle.mn_course_laws.specs.declared.coming.Arrivals.{Arrivals}
use Rattle.mn_course_laws.specs.declared.coming.Arrivals.TheVariants.{DueBy, News, AllFrames}

-- 1. The least item

abbrev pub kind_of : Channel → Kind
kind_of (Notices l node) = Notice
kind_of (Messages l end) = Message
kind_of (Routes edge peer) = Message
kind_of (Frames l dir) = Frame

abbrev pub is_kind : Kind → Kind → Bool
is_kind Notice Notice = true
is_kind Message Message = true
is_kind Frame Frame = true
is_kind _ _ = false

-- due earlier, or made earlier where both are due at one tick
abbrev pub is_due_before : ℕ → ℕ → ℕ → ℕ → Bool
is_due_before due number other_due other = nat_lt due other_due || ((due == other_due) && nat_lt number other)

abbrev pub lesser : Item → Option Item → Item
lesser item None = item
lesser item (Some other) = if is_due_before other.due other.number item.due item.number then other else item

abbrev pub least : List Item → Option Item
least [] = None
least (item ∷ items) = Some (lesser item (least items))

-- the item is of the kind, and due by the limit
abbrev pub is_due : Kind → ℕ → Item → Bool
is_due kind limit item = is_kind kind (kind_of item.on) && nat_le item.due limit

abbrev pub due_by : Kind → ℕ → List Item → List Item
due_by kind limit items = filter (is_due kind limit) items

-- 2. The step that delivers it

-- how many items on its channel were made before it
abbrev pub place_of : List Item → Item → ℕ
place_of items item = length (filter (λ other. same_channel item.on other.on && nat_lt other.number item.number) items)

-- a link whose loss is k loses each k-th frame of a direction; one whose loss is 0 loses none
abbrev pub is_each : ℕ → ℕ → Bool
is_each zero number = false
is_each (suc k) number = number % (k + 1) == 0

-- by its number among all frames sent in its direction, from 1, whatever became of them
abbrev pub is_lost : Network → List JournalEntry → List (List ℕ) → Channel → Item → Bool
is_lost topology entries inputs (Frames l dir) frame = is_each (link (wiring_of topology) l).loss (frame_number topology entries inputs l dir frame)
is_lost topology entries inputs _ item = false

-- the least of these items, as it comes
abbrev pub coming_by : Network → List JournalEntry → List (List ℕ) → List Item → Option Item → Option Coming
coming_by topology entries inputs items None = None
coming_by topology entries inputs items (Some item) = Some (record {
  due = item.due;
  number = item.number;
  step = delivering topology item.on (place_of items item);
  lossy = is_lost topology entries inputs item.on item;
})

-- what comes next of a kind after these entries, if it is due by the limit
abbrev pub coming : Network → List JournalEntry → List (List ℕ) → Kind → ℕ → Option Coming
coming topology entries inputs kind limit =
    let items : List Item = (flight_of topology entries inputs).items in
    coming_by topology entries inputs items (least (due_by kind limit items))

-- a frame that is lost doesn't arrive
abbrev pub lost : Bool → Step → Step
lost true (Carry l dir place) = Lose l dir place
lost _ step = step

-- the step that is done as it comes
abbrev pub delivery : Coming → Step
delivery coming = lost coming.lossy coming.step

-- 3. What arrives by a line

-- the earlier of two
abbrev pub earlier : Option Coming → Option Coming → Option Coming
earlier None other = other
earlier one None = one
earlier (Some one) (Some other) = if is_due_before other.due other.number one.due one.number then Some other else Some one

abbrev pub or_else : Option Coming → Option Coming → Option Coming
or_else None other = other
or_else (Some one) other = Some one

-- a tick after all that is due while the clock is at most half of it
abbrev pub ever : ℕ
ever = 2 ^ 62

-- by `run` the earliest item that is due by the end; by `drain` the earliest notice, and where none is in flight the earliest
-- message; by `flush` the earliest frame
abbrev pub next_arrival : Network → List JournalEntry → List (List ℕ) → Arrivals → Option Coming
next_arrival topology entries inputs (DueBy end) =
    earlier (coming topology entries inputs Notice end) (earlier (coming topology entries inputs Message end) (coming topology entries inputs Frame end))
next_arrival topology entries inputs News = or_else (coming topology entries inputs Notice ever) (coming topology entries inputs Message ever)
next_arrival topology entries inputs AllFrames = coming topology entries inputs Frame ever
