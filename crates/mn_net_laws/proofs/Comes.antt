-- What comes next by keys is what comes next in the ledger.
use Rattle.std.proofs.Common.{ℕ, suc, ◌≡◌, ◌+◌, ◌*◌, ◌<◌, ◌≤◌, ◌⊎◌, inl, inr, Bool, true, false, List, [], ◌∷◌, length, refl, arith, sym, ap, ◌∙◌}
use Rattle.std.proofs.Common.{subst, Option, Some, None}
use Rattle.std.specs.Prelude.{◌==◌, ◌&&◌, ◌||◌, ◌/◌, ◌%◌, nat_lt, nat_le, is_some, option_map, if◌then◌else◌}
use Rattle.std.proofs.lemmas.Bool.Decides.{nat_tests}
use Rattle.std.proofs.lemmas.Nat.{div-add-mod'}
use Rattle.mn_wiring.specs.declared.links.Dir.{Dir}
use Rattle.mn_wiring.specs.declared.links.Dir.TheVariants.{Forth, Back}
use Rattle.mn_wiring.specs.Wiring.{link}
use Rattle.mn_base.proofs.Bools.{no, and_parts, and_on, or_left, or_right, or_ways, at_most_is, at_most_tells, test_same}
use Rattle.mn_base.proofs.Rules.{some_is}
use Rattle.mn_base.proofs.Members.{In, in_contained, contained_in}
use Rattle.mn_flight.proofs.Members.{IsIn}
use Rattle.mn_topo.specs.Lawful.{IsLawful}
use Rattle.mn_topo.specs.Network.{Network, wiring_of}
use Rattle.mn_topo.specs.declared.steps.Step.{Step}
use Rattle.mn_topo.specs.declared.steps.Step.TheVariants.{Learn, HearLdp, HearBgp, Carry}
use Rattle.mn_topo.specs.declared.steps.JournalEntry.{JournalEntry}
use Rattle.mn_ledger.specs.Packets.{channel}
use Rattle.mn_ledger.specs.Items.{Channel, Notices, Messages, Routes, Frames, Item, flight_of}
use Rattle.mn_ledger_laws.specs.Flight.{AreAscending, delivering}
use Rattle.mn_ledger_laws.proofs.Counted.{flies_as_counted}
use Rattle.mn_course_laws.specs.declared.coming.Kind.{Kind}
use Rattle.mn_course_laws.specs.declared.coming.Kind.TheVariants.{Notice, Message, Frame}
use Rattle.mn_course_laws.specs.declared.coming.Coming.{Coming}
use Rattle.mn_course_laws.specs.Coming.{kind_of, is_kind, is_due, is_due_before, is_lost, coming, earlier}
use Rattle.mn_course_laws.specs.Next.{IsNext}
use Rattle.mn_course_laws.proofs.Nexts.{what_is_next}
use Rattle.mn_timetable_laws.specs.Keys.{Key, Numbering, keys_in, keys_on, with_key, of_notices, of_messages, of_routes, of_frames, channel_from, IsThere}
use Rattle.mn_timetable_laws.specs.Keys.{AreThere}
use Rattle.mn_timetable_laws.proofs.OtherKeys.{pair_one, turned}
use Rattle.mn_net_parts_laws.specs.Stands.{Packed, StandsFor}
use Rattle.mn_net_parts_laws.proofs.News.{all_there}
use Rattle.mn_net_tally.specs.Laws.{TellsLosses}
use Rattle.mn_net_tally.specs.Tallies.{is_one}
use Rattle.mn_net_laws.specs.Alike.{ComesAlike}
use Rattle.mn_net_laws.specs.Coming.{first_key, dir_of, learns_on, hears_on, tells_on, carries_on, as_coming, news_coming, coming_seen}
use Rattle.mn_net_laws.proofs.Firsts.{IsFirst, first_is}
use Rattle.mn_course_laws.proofs.Made.{at_least}

-- 1. Items and their keys

key_as : ℕ → Item → Key
key_as c x = record { channel = c; due = x.due; number = x.number }

IsKeyOf : Numbering → Key → Item → Type 0
IsKeyOf number key x = (number x.on ≡ Some key.channel) × (key.due ≡ x.due) × (key.number ≡ x.number)

from_keys : (number : Numbering) (xs : List Item) (key : Key) → IsIn key (keys_on number xs) → (x : Item) × In xs x × IsKeyOf number key x
unfolding IsKeyOf
from_keys number [] key i = absurd i
from_keys number (x ∷ xs) key i = by (number x.on) refl (λ j. from_keys number xs key j) i
  where
    by : (o : Option ℕ) → number x.on ≡ o →
        (IsIn key (keys_on number xs) → (y : Item) × In xs y × IsKeyOf number key y) → IsIn key (with_key o x (keys_on number xs)) →
        (y : Item) × In (x ∷ xs) y × IsKeyOf number key y
    by None e later j = let m = later j in (m.0, inr m.1, m.2)
    by (Some c) e later j = elim j [
      | inl q ↦ (x, inl refl, (e ∙ ap Some (sym (ap (λ (k : Key). k.channel) q)), ap (λ (k : Key). k.due) q, ap (λ (k : Key). k.number) q))
      | inr k ↦ let m = later k in (m.0, inr m.1, m.2)
    ]

to_keys : (number : Numbering) (xs : List Item) (x : Item) (c : ℕ) → In xs x → number x.on ≡ Some c → IsIn (key_as c x) (keys_on number xs)
unfolding key_as
to_keys number [] x c i e = absurd i
to_keys number (y ∷ ys) x c i e = elim i [
  | inl q ↦ subst (λ o. IsIn (record { channel = c; due = x.due; number = x.number }) (with_key o y (keys_on number ys)))
      (sym (ap (λ (z : Item). number z.on) q ∙ e))
      (inl (ap (λ (z : Item). let k : Key = record { channel = c; due = z.due; number = z.number } in k) (sym q)))
  | inr j ↦ by (number y.on) (to_keys number ys x c j e)
]
  where
    by : (o : Option ℕ) → IsIn (record { channel = c; due = x.due; number = x.number }) (keys_on number ys) →
        IsIn (record { channel = c; due = x.due; number = x.number }) (with_key o y (keys_on number ys))
    by None j = j
    by (Some d) j = inr j

one_of_number : (low high : ℕ) (xs : List Item) (x y : Item) → AreAscending low high xs → In xs x → In xs y → x.number ≡ y.number → x ≡ y
one_of_number low high [] x y h i j e = absurd i
one_of_number low high (z ∷ zs) x y h i j e = elim i [
  | inl p ↦ elim j [
    | inl q ↦ sym p ∙ q
    | inr k ↦ absurd (less (at_least (suc z.number) high zs y h.1 k) (ap (λ (v : Item). v.number) p ∙ e))
  ]
  | inr k ↦ elim j [
    | inl q ↦ absurd (less (at_least (suc z.number) high zs x h.1 k) (ap (λ (v : Item). v.number) q ∙ sym e))
    | inr m ↦ one_of_number (suc z.number) high zs x y h.1 k m e
  ]
]
  where
    less : {n : ℕ} → suc z.number ≤ n → z.number ≡ n → ⊥
    less g q = omega (arith, g, q)

-- the step on a channel of two directions
even : (l : ℕ) → 2 * l / 2 ≡ l
even l = omega arith

even_test : (l : ℕ) → (2 * l % 2 == 0) ≡ true
even_test l = test_same (2 * l % 2) 0 (none l)
  where
    none : (k : ℕ) → 2 * k % 2 ≡ 0
    none k = omega arith

odd : (l : ℕ) → (2 * l + 1) / 2 ≡ l
odd l = omega arith

odd_test : (l : ℕ) → ((2 * l + 1) % 2 == 0) ≡ false
odd_test l = ap (λ n. n == 0) (one l)
  where
    one : (k : ℕ) → (2 * k + 1) % 2 ≡ 1
    one k = omega arith

hears_channel : (l : ℕ) (d : Dir) → hears_on (channel l d) ≡ HearLdp (record { 0 = l }) d
hears_channel l Forth =
    ap (λ n. let s : Step = HearLdp (record { 0 = n }) (dir_of (2 * l)) in s) (even l) ∙ ap (λ b. let s : Step =
    HearLdp (record { 0 = l }) (if b then Forth else Back) in s) (even_test l)
hears_channel l Back =
    ap (λ n. let s : Step = HearLdp (record { 0 = n }) (dir_of (2 * l + 1)) in s) (odd l) ∙ ap (λ b. let s : Step =
    HearLdp (record { 0 = l }) (if b then Forth else Back) in s) (odd_test l)

carries_channel : (l : ℕ) (d : Dir) → carries_on (channel l d) ≡ Carry (record { 0 = l }) d 0
carries_channel l Forth =
    ap (λ n. let s : Step = Carry (record { 0 = n }) (dir_of (2 * l)) 0 in s) (even l) ∙ ap (λ b. let s : Step =
    Carry (record { 0 = l }) (if b then Forth else Back) 0 in s) (even_test l)
carries_channel l Back =
    ap (λ n. let s : Step = Carry (record { 0 = n }) (dir_of (2 * l + 1)) 0 in s) (odd l) ∙ ap (λ b. let s : Step =
    Carry (record { 0 = l }) (if b then Forth else Back) 0 in s) (odd_test l)

-- 2. What comes, of the items that are due by some test

goes_none : (d n e m : ℕ) → (nat_lt d e || ((d == e) && nat_le n m)) ≡ true → is_due_before e m d n ≡ false
goes_none d n e m h = grind (arith, nat_tests, h)

either_first : (d n e m a b : ℕ) → is_due_before e m d n ≡ false → is_due_before a b e m ≡ false → is_due_before a b d n ≡ false
either_first d n e m a b h g = grind (arith, nat_tests, h, g)

turned_first : (d n e m a b : ℕ) → is_due_before e m d n ≡ true → is_due_before a b d n ≡ false → is_due_before a b e m ≡ false
turned_first d n e m a b h g = grind (arith, nat_tests, h, g)

neither_first : (d n e m : ℕ) → is_due_before d n e m ≡ false → is_due_before e m d n ≡ false → n ≡ m
neither_first d n e m h g = grind (arith, nat_tests, h, g)

module _ (t : Network) (lawful : IsLawful t) (es : List JournalEntry) (ps : List (List ℕ)) (packed : Packed) (h : StandsFor t es packed ps) where
  abbrev items : List Item
  items = (flight_of t es ps).items

  -- it is what comes of this item
  pub record IsOf (c : Coming) (x : Item) : Type 0 where
    pub due : c.due ≡ x.due
    pub number : c.number ≡ x.number
    pub step : c.step ≡ delivering t x.on 0
    pub lossy : c.lossy ≡ is_lost t es ps x.on x

  abbrev Comes : (Item → Bool) → Option Coming → Type 0
  Comes test None = (x : Item) → In items x → test x ≡ true → ⊥
  Comes test (Some c) =
      (x : Item) × In items x × (test x ≡ true) × IsOf c x × ((y : Item) → In items y → test y ≡ true → is_due_before y.due y.number x.due x.number ≡ false)

  one_comes : (test : Item → Bool) (a b : Option Coming) → Comes test a → Comes test b → a ≡ b
  one_comes test None None p q = refl
  one_comes test None (Some d) p q = absurd (p q.0 q.1 q.2)
  one_comes test (Some c) None p q = absurd (q p.0 p.1 p.2)
  one_comes test (Some c) (Some d) p q =
      let number : p.0.number ≡ q.0.number = neither_first p.0.due p.0.number q.0.due q.0.number (q.4 p.0 p.1 p.2) (p.4 q.0 q.1 q.2) in
      let same : p.0 ≡ q.0 = one_of_number 0 (flight_of t es ps).made items p.0 q.0 (flies_as_counted t es ps lawful h.lawful).ascending p.1 q.1 number in
      let there : IsOf c q.0 = subst (IsOf c) same p.3 in
      alike (there.due ∙ sym q.3.due) (there.number ∙ sym q.3.number) (there.step ∙ sym q.3.step) (there.lossy ∙ sym q.3.lossy)
    where
      alike : c.due ≡ d.due → c.number ≡ d.number → c.step ≡ d.step → c.lossy ≡ d.lossy → Some c ≡ Some d
      alike e f g k =
          ap (λ n. let r : Coming = record { due = n; number = c.number; step = c.step; lossy = c.lossy } in Some r) e
          ∙ ap (λ n. let r : Coming = record { due = d.due; number = n; step = c.step; lossy = c.lossy } in Some r) f
          ∙ ap (λ s. let r : Coming = record { due = d.due; number = d.number; step = s; lossy = c.lossy } in Some r) g
          ∙ ap (λ b. let r : Coming = record { due = d.due; number = d.number; step = d.step; lossy = b } in Some r) k

  -- that of the ledger
  pub ledgers : (kind : Kind) (limit : ℕ) → Comes (is_due kind limit) (coming t es ps kind limit)
  ledgers kind limit = by (coming t es ps kind limit) (what_is_next t lawful es ps h.lawful kind limit)
    where
      by : (o : Option Coming) → IsNext t es ps kind limit o → Comes (is_due kind limit) o
      by None g = λ x i e. no (sym (g x (contained_in items x i)) ∙ e)
      by (Some c) g = (
        g.item,
        in_contained items g.item g.least.there,
        g.least.in_time,
        record { due = g.due; number = g.number; step = g.step; lossy = g.lossy },
        λ y i e. g.least.least y (contained_in items y i) e,
      )

  -- the earlier of two
  both_come : (one other all : Item → Bool) (a b : Option Coming) → ((x : Item) → one x ≡ true → all x ≡ true) → ((x : Item) → other x ≡ true → all x ≡ true) →
      ((x : Item) → all x ≡ true → (one x ≡ true) ⊎ (other x ≡ true)) → Comes one a → Comes other b → Comes all (earlier a b)
  both_come one other all None None f g split p q = λ x i e. elim (split x e) [ inl r ↦ p x i r | inr r ↦ q x i r ]
  both_come one other all None (Some d) f g split p q = (q.0, q.1, g q.0 q.2, q.3, λ y i e. elim (split y e) [ inl r ↦ absurd (p y i r) | inr r ↦ q.4 y i r ])
  both_come one other all (Some c) None f g split p q = (p.0, p.1, f p.0 p.2, p.3, λ y i e. elim (split y e) [ inl r ↦ p.4 y i r | inr r ↦ absurd (q y i r) ])
  both_come one other all (Some c) (Some d) f g split p q = by (is_due_before d.due d.number c.due c.number) refl
    where
      in_items : (b : Bool) → is_due_before d.due d.number c.due c.number ≡ b → is_due_before q.0.due q.0.number p.0.due p.0.number ≡ b
      in_items b e =
          ap (λ n. is_due_before n q.0.number p.0.due p.0.number) (sym q.3.due) ∙ ap (λ n. is_due_before d.due n p.0.due p.0.number) (sym q.3.number)
          ∙ ap (λ n. is_due_before d.due d.number n p.0.number) (sym p.3.due) ∙ ap (λ n. is_due_before d.due d.number c.due n) (sym p.3.number) ∙ e

      by : (b : Bool) → is_due_before d.due d.number c.due c.number ≡ b → Comes all (if b then Some d else Some c)
      by true e = (
        q.0,
        q.1,
        g q.0 q.2,
        q.3,
        λ y i r. elim (split y r) [
          | inl k ↦ turned_first p.0.due p.0.number q.0.due q.0.number y.due y.number (in_items true e) (p.4 y i k)
          | inr k ↦ q.4 y i k
        ],
      )
      by false e = (
        p.0,
        p.1,
        f p.0 p.2,
        p.3,
        λ y i r. elim (split y r) [
          | inl k ↦ p.4 y i k
          | inr k ↦ either_first p.0.due p.0.number q.0.due q.0.number y.due y.number (in_items false e) (q.4 y i k)
        ],
      )

  -- 3. The first key of a numbering

  abbrev due_on : Numbering → ℕ → Item → Bool
  due_on number limit x = is_some (number x.on) && nat_le x.due limit

  first_comes : (number : Numbering) (limit : ℕ) (step : ℕ → Step) (lossy : ℕ → Bool) →
      ((x : Item) (c : ℕ) → In items x → number x.on ≡ Some c → step c ≡ delivering t x.on 0) →
      ((x : Item) (c : ℕ) → In items x → number x.on ≡ Some c → lossy x.number ≡ is_lost t es ps x.on x) →
      Comes (due_on number limit) (option_map (as_coming step lossy) (first_key limit (keys_on number items)))
  unfolding IsKeyOf key_as
  first_comes number limit step lossy f g = by (first_key limit (keys_on number items)) (first_is limit (keys_on number items))
    where
      numbered : (x : Item) (o : Option ℕ) → number x.on ≡ o → is_some (number x.on) ≡ true → (c : ℕ) × (number x.on ≡ Some c)
      numbered x None e s = absurd (no (sym (ap is_some e) ∙ s))
      numbered x (Some c) e s = (c, e)

      by : (o : Option Key) → IsFirst limit (keys_on number items) o → Comes (due_on number limit) (option_map (as_coming step lossy) o)
      by None p = λ x i e.
          let both = and_parts (is_some (number x.on)) (nat_le x.due limit) e in
          let c = numbered x (number x.on) refl both.0 in
          p (key_as c.0 x) (to_keys number items x c.0 i c.1) (at_most_tells x.due limit both.1)
      by (Some key) p =
          let m = from_keys number items key p.0 in
          let k : IsKeyOf number key m.0 = m.2 in (
            m.0,
            m.1,
            and_on (is_some (number m.0.on)) (nat_le m.0.due limit) (ap is_some k.0) (at_most_is m.0.due limit (subst (λ n. n ≤ limit) k.1 p.1)),
            record { due = k.1; number = k.2; step = f m.0 key.channel m.1 k.0; lossy = ap lossy k.2 ∙ g m.0 key.channel m.1 k.0 },
            λ y i e.
                let both = and_parts (is_some (number y.on)) (nat_le y.due limit) e in
                let c = numbered y (number y.on) refl both.0 in
                let first = p.2 (key_as c.0 y) (to_keys number items y c.0 i c.1) (at_most_tells y.due limit both.1) in
                goes_none m.0.due m.0.number y.due y.number
                (ap (λ n. nat_lt n y.due || ((n == y.due) && nat_le m.0.number y.number)) (sym k.1)
                ∙ ap (λ n. nat_lt key.due y.due || ((key.due == y.due) && nat_le n y.number)) (sym k.2) ∙ first),
          )

  -- 4. The four flights

  there_in : (xs : List Item) (x : Item) → AreThere t xs → In xs x → IsThere t x.on
  there_in [] x are i = absurd i
  there_in (y ∷ ys) x are i = elim i [ inl e ↦ subst (λ (z : Item). IsThere t z.on) e are.0 | inr j ↦ there_in ys x are.1 j ]

  there : (x : Item) → In items x → IsThere t x.on
  there x i = there_in items x (all_there t es ps lawful h.lawful) i

  -- a number of two parts
  parts_of : (n l m : ℕ) → m < n → ((l * n + m) / n ≡ l) × ((l * n + m) % n ≡ m)
  parts_of n l m g = pair_one n ((l * n + m) / n) l ((l * n + m) % n) m (rest_below (l * n + m) n g) g (div-add-mod' (l * n + m) n)
    where
      rest_below : (c k : ℕ) → m < k → c % k < k
      rest_below c k b = omega (arith, b)

  notice_step : (on : Channel) (c : ℕ) → IsThere t on → of_notices (length t.loopbacks) on ≡ Some c → learns_on (length t.loopbacks) c ≡ delivering t on 0
  notice_step (Notices l m) c g e =
      let p = parts_of (length t.loopbacks) l m g in
      ap (learns_on (length t.loopbacks)) (sym (some_is (l * length t.loopbacks + m) c e))
      ∙ ap (λ n. let s : Step = Learn (record { 0 = n }) (record { 0 = (l * length t.loopbacks + m) / length t.loopbacks }) in s) p.1
      ∙ ap (λ n. let s : Step = Learn (record { 0 = m }) (record { 0 = n }) in s) p.0
  notice_step (Messages l m) c g e = cc
  notice_step (Routes l m) c g e = cc
  notice_step (Frames l m) c g e = cc

  route_step : (on : Channel) (c : ℕ) → IsThere t on → of_routes (length t.loopbacks) on ≡ Some c → tells_on (length t.loopbacks) c ≡ delivering t on 0
  route_step (Routes a b) c g e =
      let p = parts_of (length t.loopbacks) a b g.1 in
      ap (tells_on (length t.loopbacks)) (sym (some_is (a * length t.loopbacks + b) c e))
      ∙ ap (λ n. let s : Step = HearBgp (record { 0 = n }) (record { 0 = (a * length t.loopbacks + b) % length t.loopbacks }) in s) p.0
      ∙ ap (λ n. let s : Step = HearBgp (record { 0 = a }) (record { 0 = n }) in s) p.1
  route_step (Notices l m) c g e = cc
  route_step (Messages l m) c g e = cc
  route_step (Frames l m) c g e = cc

  message_step : (on : Channel) (c : ℕ) → IsThere t on → of_messages t on ≡ Some c → hears_on c ≡ delivering t on 0
  message_step (Messages l m) c g e =
      ap hears_on (sym (some_is (channel_from (wiring_of t) l m) c e)) ∙ by (m == (link (wiring_of t) l).a.0) (turned m (link (wiring_of t) l).a.0)
    where
      by : (b : Bool) → b ≡ ((link (wiring_of t) l).a.0 == m) →
          hears_on (if b then 2 * l else 2 * l + 1) ≡ HearLdp (record { 0 = l }) (if (link (wiring_of t) l).a.0 == m then Forth else Back)
      by true q = hears_channel l Forth ∙ ap (λ i. let s : Step = HearLdp (record { 0 = l }) (if i then Forth else Back) in s) q
      by false q = hears_channel l Back ∙ ap (λ i. let s : Step = HearLdp (record { 0 = l }) (if i then Forth else Back) in s) q
  message_step (Notices l m) c g e = cc
  message_step (Routes l m) c g e = cc
  message_step (Frames l m) c g e = cc

  frame_step : (on : Channel) (c : ℕ) → of_frames on ≡ Some c → carries_on c ≡ delivering t on 0
  frame_step (Frames l d) c e = ap carries_on (sym (some_is (channel l d) c e)) ∙ carries_channel l d
  frame_step (Notices l m) c e = cc
  frame_step (Messages l m) c e = cc
  frame_step (Routes l m) c e = cc

  -- news is never lost
  no_frame : (on : Channel) (x : Item) → is_kind Frame (kind_of on) ≡ false → false ≡ is_lost t es ps on x
  no_frame (Frames l d) x e = cc
  no_frame (Notices l m) x e = refl
  no_frame (Messages l m) x e = refl
  no_frame (Routes l m) x e = refl

  notice_kind : (on : Channel) → is_some (of_notices (length t.loopbacks) on) ≡ is_kind Notice (kind_of on)
  notice_kind (Notices l m) = refl
  notice_kind (Messages l m) = refl
  notice_kind (Routes l m) = refl
  notice_kind (Frames l m) = refl

  message_kind : (on : Channel) → (is_some (of_messages t on) || is_some (of_routes (length t.loopbacks) on)) ≡ is_kind Message (kind_of on)
  message_kind (Notices l m) = refl
  message_kind (Messages l m) = refl
  message_kind (Routes l m) = refl
  message_kind (Frames l m) = refl

  frame_kind : (on : Channel) → is_some (of_frames on) ≡ is_kind Frame (kind_of on)
  frame_kind (Notices l m) = refl
  frame_kind (Messages l m) = refl
  frame_kind (Routes l m) = refl
  frame_kind (Frames l m) = refl

  notice_no_frame : (on : Channel) (c : ℕ) → of_notices (length t.loopbacks) on ≡ Some c → is_kind Frame (kind_of on) ≡ false
  notice_no_frame (Frames l m) c e = cc
  notice_no_frame (Notices l m) c e = refl
  notice_no_frame (Messages l m) c e = refl
  notice_no_frame (Routes l m) c e = refl

  message_no_frame : (on : Channel) (c : ℕ) → of_messages t on ≡ Some c → is_kind Frame (kind_of on) ≡ false
  message_no_frame (Frames l m) c e = cc
  message_no_frame (Notices l m) c e = refl
  message_no_frame (Messages l m) c e = refl
  message_no_frame (Routes l m) c e = refl

  route_no_frame : (on : Channel) (c : ℕ) → of_routes (length t.loopbacks) on ≡ Some c → is_kind Frame (kind_of on) ≡ false
  route_no_frame (Frames l m) c e = cc
  route_no_frame (Notices l m) c e = refl
  route_no_frame (Messages l m) c e = refl
  route_no_frame (Routes l m) c e = refl

  by_test : (one other : Item → Bool) (o : Option Coming) → ((x : Item) → one x ≡ other x) → Comes one o → Comes other o
  by_test one other None e p = λ x i r. p x i (e x ∙ r)
  by_test one other (Some c) e p = (p.0, p.1, sym (e p.0) ∙ p.2, p.3, λ y i r. p.4 y i (e y ∙ r))

  -- 5. Of each kind

  news_comes : (number : Numbering) (keys : List Key) (limit : ℕ) (step : ℕ → Step) → keys ≡ keys_on number items →
      ((on : Channel) (c : ℕ) → IsThere t on → number on ≡ Some c → step c ≡ delivering t on 0) →
      ((on : Channel) (c : ℕ) → number on ≡ Some c → is_kind Frame (kind_of on) ≡ false) →
      Comes (due_on number limit) (news_coming step limit keys)
  news_comes number keys limit step e f g =
      subst (λ ks. Comes (due_on number limit) (news_coming step limit ks)) (sym e)
      (first_comes number limit step (λ n. false) (λ x c i q. f x.on c (there x i) q) (λ x c i q. no_frame x.on x (g x.on c q)))

  notices_come : (limit : ℕ) → Comes (is_due Notice limit) (news_coming (learns_on (length t.loopbacks)) limit packed.notices)
  notices_come limit =
      by_test (due_on (of_notices (length t.loopbacks)) limit) (is_due Notice limit) _ (λ x. ap (λ b. b && nat_le x.due limit) (notice_kind x.on))
      (news_comes (of_notices (length t.loopbacks)) packed.notices limit (learns_on (length t.loopbacks)) h.notices notice_step notice_no_frame)

  messages_come : (limit : ℕ) →
      Comes (is_due Message limit) (earlier (news_coming hears_on limit packed.messages) (news_coming (tells_on (length t.loopbacks)) limit packed.routes))
  messages_come limit =
      both_come (due_on (of_messages t) limit) (due_on (of_routes (length t.loopbacks)) limit) (is_due Message limit) _ _
      (λ x e. let b = and_parts (is_some (of_messages t x.on)) (nat_le x.due limit) e in
      and_on (is_kind Message (kind_of x.on)) (nat_le x.due limit)
      (sym (message_kind x.on) ∙ or_left (is_some (of_messages t x.on)) (is_some (of_routes (length t.loopbacks) x.on)) b.0) b.1)
      (λ x e. let b = and_parts (is_some (of_routes (length t.loopbacks) x.on)) (nat_le x.due limit) e in
      and_on (is_kind Message (kind_of x.on)) (nat_le x.due limit)
      (sym (message_kind x.on) ∙ or_right (is_some (of_messages t x.on)) (is_some (of_routes (length t.loopbacks) x.on)) b.0) b.1)
      (λ x e. let b = and_parts (is_kind Message (kind_of x.on)) (nat_le x.due limit) e in
      elim (or_ways (is_some (of_messages t x.on)) (is_some (of_routes (length t.loopbacks) x.on)) (message_kind x.on ∙ b.0)) [
        | inl r ↦ inl (and_on (is_some (of_messages t x.on)) (nat_le x.due limit) r b.1)
        | inr r ↦ inr (and_on (is_some (of_routes (length t.loopbacks) x.on)) (nat_le x.due limit) r b.1)
      ])
      (news_comes (of_messages t) packed.messages limit hears_on h.messages message_step message_no_frame)
      (news_comes (of_routes (length t.loopbacks)) packed.routes limit (tells_on (length t.loopbacks)) h.routes route_step route_no_frame)

  frames_come : (lossy : List ℕ) (limit : ℕ) → TellsLosses t es ps lossy →
      Comes (is_due Frame limit) (option_map (as_coming carries_on (is_one lossy)) (first_key limit (keys_in packed.moving.flying)))
  frames_come lossy limit tells =
      by_test (due_on of_frames limit) (is_due Frame limit) _ (λ x. ap (λ b. b && nat_le x.due limit) (frame_kind x.on))
      (subst (λ ks. Comes (due_on of_frames limit) (option_map (as_coming carries_on (is_one lossy)) (first_key limit ks))) (sym h.frames)
      (first_comes of_frames limit carries_on (is_one lossy) (λ x c i q. frame_step x.on c q) (λ x c i q. tells x (contained_in items x i))))

  pub same_coming : (lossy : List ℕ) (kind : Kind) (limit : ℕ) → TellsLosses t es ps lossy → coming_seen t packed lossy kind limit ≡ coming t es ps kind limit
  same_coming lossy Notice limit tells = one_comes (is_due Notice limit) _ _ (notices_come limit) (ledgers Notice limit)
  same_coming lossy Message limit tells = one_comes (is_due Message limit) _ _ (messages_come limit) (ledgers Message limit)
  same_coming lossy Frame limit tells = one_comes (is_due Frame limit) _ _ (frames_come lossy limit tells) (ledgers Frame limit)

pub comes_alike : ComesAlike
comes_alike t es ps packed lossy kind limit lawful h tells = same_coming t lawful es ps packed h lossy kind limit tells
