-- Time goes on past no frame that is due: the frames' due ticks are those of the ledger's items.
use Rattle.std.proofs.Common.{ℕ, ◌≡◌, ◌<◌, ◌≤◌, inl, inr, true, List, [], ◌∷◌, sym, subst, refl}
use Rattle.std.specs.List.{All, AllByRecursion}
use Rattle.std.proofs.lemmas.List.Elements.{All-nil, All-cons, All-head, All-tail}
use Rattle.std.proofs.lemmas.Bool.Decides.{leb_tells}
use Rattle.mn_base.proofs.Bools.{no, or_left, or_right}
use Rattle.mn_base.proofs.Members.{In}
use Rattle.mn_flight.specs.declared.Item.{Item as ItemOf}
use Rattle.mn_topo.specs.Lawful.{IsLawful}
use Rattle.mn_topo.specs.Network.{Network}
use Rattle.mn_topo.specs.declared.steps.JournalEntry.{JournalEntry}
use Rattle.mn_ledger.specs.Ledger.{packets_of}
use Rattle.mn_ledger.specs.Lawful.{GoesForward, IsLawfulJournal}
use Rattle.mn_ledger.specs.OneMore.{tick_from}
use Rattle.mn_ledger.specs.Items.{Channel, Notices, Messages, Routes, Frames, Item, flight_of}
use Rattle.mn_ledger_laws.specs.Flight.{is_frame}
use Rattle.mn_ledger_laws.proofs.Due.{none_due}
use Rattle.mn_timetable_laws.specs.Keys.{Key, keys_in, keys_on, with_key, of_frames}

-- none of these keys is due before the tick
abbrev AreDue : ℕ → List Key → Type 0
AreDue tick keys = AllByRecursion (λ (key : Key). tick ≤ key.due) keys

keys_due : {T : Type 0} (tick : ℕ) (xs : List (ItemOf T)) → All (λ item. tick ≤ item.due) xs → AreDue tick (keys_in xs)
keys_due tick [] h = tt
keys_due tick (x ∷ xs) h = (All-head (λ item. tick ≤ item.due) x xs h, keys_due tick xs (All-tail (λ item. tick ≤ item.due) x xs h))

due_keys : {T : Type 0} (tick : ℕ) (xs : List (ItemOf T)) → AreDue tick (keys_in xs) → All (λ item. tick ≤ item.due) xs
due_keys tick [] h = All-nil (λ item. tick ≤ item.due)
due_keys tick (x ∷ xs) h = All-cons (λ item. tick ≤ item.due) x xs h.0 (due_keys tick xs h.1)

-- an item and others, by its channel
first_due : (tick : ℕ) (on : Channel) (y : Item) (keys : List Key) → AreDue tick (with_key (of_frames on) y keys)
    → (is_frame on ≡ true → tick ≤ y.due) × AreDue tick keys
first_due tick (Frames l d) y keys h = (λ f. h.0, h.1)
first_due tick (Notices l n) y keys h = (λ f. absurd (no f), h)
first_due tick (Messages l n) y keys h = (λ f. absurd (no f), h)
first_due tick (Routes a b) y keys h = (λ f. absurd (no f), h)

due_first : (tick : ℕ) (on : Channel) (y : Item) (keys : List Key) → (is_frame on ≡ true → tick ≤ y.due) → AreDue tick keys
    → AreDue tick (with_key (of_frames on) y keys)
due_first tick (Frames l d) y keys h g = (h refl, g)
due_first tick (Notices l n) y keys h g = g
due_first tick (Messages l n) y keys h g = g
due_first tick (Routes a b) y keys h g = g

-- of the frames among these items
frames_due : (tick : ℕ) (items : List Item) → AreDue tick (keys_on of_frames items) → (x : Item) → In items x → is_frame x.on ≡ true → tick ≤ x.due
frames_due tick [] h x i f = absurd i
frames_due tick (y ∷ ys) h x i f =
    let one = first_due tick y.on y (keys_on of_frames ys) h in
    elim i [
      | inl e ↦ subst (λ (z : Item). tick ≤ z.due) e (one.0 (subst (λ (z : Item). is_frame z.on ≡ true) (sym e) f))
      | inr j ↦ frames_due tick ys one.1 x j f
    ]

due_frames : (tick : ℕ) (items : List Item) → ((x : Item) → In items x → is_frame x.on ≡ true → tick ≤ x.due) → AreDue tick (keys_on of_frames items)
due_frames tick [] h = tt
due_frames tick (y ∷ ys) h =
    due_first tick y.on y (keys_on of_frames ys) (h y (inl refl)) (due_frames tick ys (λ x i. h x (inr i)))

-- what flies is due no earlier than what comes first
pub all_due : {T : Type 0} (tick : ℕ) (items : List Item) (xs : List (ItemOf T)) → keys_in xs ≡ keys_on of_frames items
    → ((x : Item) → In items x → is_frame x.on ≡ true → tick ≤ x.due) → All (λ item. tick ≤ item.due) xs
all_due tick items xs e h = due_keys tick xs (subst (AreDue tick) (sym e) (due_frames tick items h))

-- the clock goes forward
pub goes_forward : {T : Type 0} (t : Network) (es : List JournalEntry) (ps : List (List ℕ)) (xs : List (ItemOf T)) (tick : ℕ) → IsLawful t
    → IsLawfulJournal t es ps → keys_in xs ≡ keys_on of_frames (flight_of t es ps).items → tick_from 0 es ≤ tick
    → (tick_from 0 es < tick → All (λ item. tick ≤ item.due) xs) → GoesForward t (tick_from 0 es) (packets_of t es ps) tick
goes_forward t es ps xs tick lawful journal e later due = record {
  later = later;
  due = elim (leb_tells tick (tick_from 0 es)) [
    | inl q ↦ or_left _ _ q.0
    | inr q ↦ or_right _ _ (none_due t es ps tick lawful journal (frames_due tick (flight_of t es ps).items
        (subst (AreDue tick) e (keys_due tick xs (due q.1)))))
  ];
}
