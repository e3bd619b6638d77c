-- What comes next is first on its channel, is due soon, and can be delivered.
use Rattle.std.proofs.Common.{ℕ, ◌≡◌, ◌<◌, ◌≤◌, ◌⊎◌, inl, inr, Bool, true, false, cond, List, [], ◌∷◌, filter, length, refl, arith, sym, ap, ◌∙◌, subst}
use Rattle.std.proofs.Common.{Option, Some, None}
use Rattle.std.specs.Prelude.{◌&&◌, nat_lt, nat_le, if◌then◌else◌}
use Rattle.std.specs.List.{Contains}
use Rattle.mn_base.proofs.Bools.{two_ways, and_parts, and_on, at_most_is, at_most_tells, less_tells, no, clash, not_at_most_tells}
use Rattle.mn_base.proofs.Members.{In, in_contained, contained_in, in_filter, filter_in}
use Rattle.mn_topo.specs.Lawful.{IsLawful}
use Rattle.mn_topo.specs.Network.{Network}
use Rattle.mn_topo.specs.declared.steps.JournalEntry.{JournalEntry}
use Rattle.mn_ledger.specs.Lawful.{IsLawfulJournal}
use Rattle.mn_ledger.specs.Items.{Channel, Notices, Messages, Routes, Frames, Item, same_channel, items_on, delay_on, flight_of}
use Rattle.mn_ledger_laws.specs.Flight.{delivering, IsOpen, FliesAsCounted, is_frame}
use Rattle.mn_ledger_laws.proofs.Counted.{flies_as_counted}
use Rattle.mn_course_laws.specs.declared.coming.Kind.{Kind}
use Rattle.mn_course_laws.specs.Coming.{kind_of, is_kind, is_due, due_by, least, place_of, is_lost, coming_by, coming, lost, is_due_before, earlier}
use Rattle.mn_course_laws.specs.Next.{IsNext, first_due}
use Rattle.mn_course_laws.proofs.Leasts.{earlier_is, NoneBefore, IsLeastOf, least_is, not_before}
use Rattle.mn_course_laws.proofs.Made.{same_on, on_itself, made_before, due_soon}
use Rattle.mn_course_laws.specs.declared.coming.Coming.{Coming}
use Rattle.mn_course_laws.specs.declared.coming.Kind.TheVariants.{Frame}

-- where the earlier of two doesn't come, neither does
pub neither_comes : (a b : Option Coming) → earlier a b ≡ None → (a ≡ None) × (b ≡ None)
neither_comes None b h = (refl, h)
neither_comes (Some x) None h = absurd (cc)
neither_comes (Some x) (Some y) h = by (is_due_before y.due y.number x.due x.number) h
  where
    by : (b : Bool) → (if b then Some y else Some x) ≡ None → (Some x ≡ None) × (Some y ≡ None)
    by true e = cc
    by false e = cc

pub none_kept : {A : Type 0} (p : A → Bool) (xs : List A) → ((x : A) → In xs x → p x ≡ false) → length (filter p xs) ≡ 0
none_kept p [] h = refl
none_kept p (x ∷ xs) h = ap (λ b. length (cond b (x ∷ filter p xs) (filter p xs))) (h x (inl refl)) ∙ none_kept p xs (λ y i. h y (inr i))

some_there : {A : Type 0} (xs : List A) (x : A) → In xs x → 0 < length xs
some_there [] x i = absurd i
some_there (y ∷ ys) x i = omega arith

module _ (t : Network) (lawful : IsLawful t) (es : List JournalEntry) (ps : List (List ℕ)) (journal : IsLawfulJournal t es ps) where
  abbrev items : List Item
  items = (flight_of t es ps).items

  flies : FliesAsCounted t es ps
  flies = flies_as_counted t es ps lawful journal

  -- 1. Its place is 0: what was made before it on its channel is due no later

  no_sooner : (kind : Kind) (limit : ℕ) (x y : Item) → In items x → In items y → is_due kind limit x ≡ true → NoneBefore (due_by kind limit items) x
      → same_channel x.on y.on ≡ true → y.number < x.number → ⊥
  no_sooner kind limit x y i j due none same less =
      let on : y.on ≡ x.on = same_on x.on y.on same in
      let order = made_before t 0 (flight_of t es ps).made items y x flies.in_order flies.ascending j i less in
      let sooner : y.due ≤ x.due = omega (arith, order, ap (delay_on t) on) in
      let parts = and_parts (is_kind kind (kind_of x.on)) (nat_le x.due limit) due in
      let due_too : is_due kind limit y ≡ true = and_on (is_kind kind (kind_of y.on)) (nat_le y.due limit)
      (ap (λ c. is_kind kind (kind_of c)) on ∙ parts.0) (at_most_is y.due limit (in_time sooner (at_most_tells x.due limit parts.1))) in
      earlier_is y.due y.number x.due x.number sooner less (none y (filter_in (is_due kind limit) items y j due_too))
    where
      in_time : y.due ≤ x.due → x.due ≤ limit → y.due ≤ limit
      in_time h g = omega (arith, h, g)

  first_place : (kind : Kind) (limit : ℕ) (x : Item) → In items x → is_due kind limit x ≡ true → NoneBefore (due_by kind limit items) x → place_of items x ≡ 0
  first_place kind limit x i due none = none_kept (λ other. same_channel x.on other.on && nat_lt other.number x.number) items (λ y j. by y j (two_ways _))
    where
      by : (y : Item) → In items y
          → ((same_channel x.on y.on && nat_lt y.number x.number) ≡ true) ⊎ ((same_channel x.on y.on && nat_lt y.number x.number) ≡ false)
          → (same_channel x.on y.on && nat_lt y.number x.number) ≡ false
      by y j (inl h) =
          let parts = and_parts (same_channel x.on y.on) (nat_lt y.number x.number) h in
          absurd (no_sooner kind limit x y i j due none parts.0 (less_tells y.number x.number parts.1))
      by y j (inr h) = h

  -- 2. It can be delivered, or lost

  open_there : (on : Channel) (b : Bool) (place : ℕ) → place < length (items_on on items) → IsOpen t es ps (lost b (delivering t on place))
  open_there (Frames l d) true place h = flies.lost (record { 0 = l }) d place h
  open_there (Frames l d) false place h = flies.delivered (Frames l d) place h
  open_there (Notices l n) true place h = flies.delivered (Notices l n) place h
  open_there (Notices l n) false place h = flies.delivered (Notices l n) place h
  open_there (Messages l n) true place h = flies.delivered (Messages l n) place h
  open_there (Messages l n) false place h = flies.delivered (Messages l n) place h
  open_there (Routes a b) true place h = flies.delivered (Routes a b) place h
  open_there (Routes a b) false place h = flies.delivered (Routes a b) place h

  first_there : (x : Item) → In items x → 0 < length (items_on x.on items)
  first_there x i = some_there (items_on x.on items) x (filter_in (λ item. same_channel x.on item.on) items x i (on_itself x.on))

  -- 3. What comes next

  pub what_is_next : (kind : Kind) (limit : ℕ) → IsNext t es ps kind limit (coming t es ps kind limit)
  what_is_next kind limit = by (least (due_by kind limit items)) (least_is (due_by kind limit items))
    where
      none_due : due_by kind limit items ≡ [] → (x : Item) → Contains items x
          → (is_due kind limit x ≡ true) ⊎ (is_due kind limit x ≡ false) → is_due kind limit x ≡ false
      none_due h x c (inl g) = absurd (subst (λ xs. In xs x) h (filter_in (is_due kind limit) items x (in_contained items x c) g))
      none_due h x c (inr g) = g

      by : (o : Option Item) → IsLeastOf (due_by kind limit items) o → IsNext t es ps kind limit (coming_by t es ps items o)
      by None h = λ x c. none_due h x c (two_ways (is_due kind limit x))
      by (Some x) h =
          let f = in_filter (is_due kind limit) items x h.0 in
          let place : place_of items x ≡ 0 = first_place kind limit x f.0 f.1 h.1 in
          let there : Contains items x = contained_in items x f.0 in
          record {
            item = x;
            least = record { there = there; in_time = f.1; least = λ y c g. h.1 y (filter_in (is_due kind limit) items y (in_contained items y c) g) };
            due = refl;
            number = refl;
            step = ap (delivering t x.on) place;
            lossy = refl;
            soon = due_soon t lawful es ps journal x there (flies.channels x there);
            delivered = open_there x.on (is_lost t es ps x.on x) (place_of items x)
                (subst (λ n. n < length (items_on x.on items)) (sym place) (first_there x f.0));
          }

-- 4. Frames are due no earlier than the first

frame_kind : (on : Channel) → is_frame on ≡ true → is_kind Frame (kind_of on) ≡ true
frame_kind (Frames l d) h = refl
frame_kind (Notices l n) h = absurd (no h)
frame_kind (Messages l n) h = absurd (no h)
frame_kind (Routes a b) h = absurd (no h)

pub frames_first : (t : Network) (es : List JournalEntry) (ps : List (List ℕ)) (limit : ℕ) (o : Option Coming) → IsNext t es ps Frame limit o
    → (x : Item) → In (flight_of t es ps).items x → is_frame x.on ≡ true → first_due limit o ≤ x.due
frames_first t es ps limit o next x i frame = elim (two_ways (nat_le x.due limit)) [
  | inl q ↦ in_time o next (and_on (is_kind Frame (kind_of x.on)) (nat_le x.due limit) (frame_kind x.on frame) q)
  | inr q ↦ late o next (not_at_most_tells x.due limit q)
]
  where
    in_time : (o : Option Coming) → IsNext t es ps Frame limit o → is_due Frame limit x ≡ true → first_due limit o ≤ x.due
    in_time None g q = absurd (clash (sym q ∙ g x (contained_in (flight_of t es ps).items x i)))
    in_time (Some f) g q =
        let later : g.item.due ≤ x.due = (not_before x.due x.number g.item.due g.item.number
        (g.least.least x (contained_in (flight_of t es ps).items x i) q)).0 in
        omega (arith, later, g.due)

    late : (o : Option Coming) → IsNext t es ps Frame limit o → limit < x.due → first_due limit o ≤ x.due
    late None g h = omega (arith, h)
    late (Some f) g h =
        let by : g.item.due ≤ limit = at_most_tells g.item.due limit
        (and_parts (is_kind Frame (kind_of g.item.on)) (nat_le g.item.due limit) g.least.in_time).1 in
        omega (arith, by, h, g.due)
