-- Calls of a flight, as the list of what flies sees them.
use Rattle.std.proofs.Common.{ℕ, ◌≡◌, ◌≢◌, ◌+◌, ◌*◌, ◌<◌, inl, inr, Bool, true, false, cond, List, [], ◌∷◌, ◌++◌, refl, arith, sym, ◌∙◌, ap, subst, Some, None}
use Rattle.std.proofs.Common.{filter, Option, ◌≤◌}
use Rattle.std.specs.Prelude.{◌==◌, ◌&&◌, not, slice_get, option_map, nat_lt, nat_le}
use Rattle.std.specs.List.{AllByRecursion}
use Rattle.std.proofs.lemmas.Bool.Decides.{eqb_tells}
use Rattle.std.proofs.lemmas.Option.{same_Some}
use Rattle.std.proofs.lemmas.List.{map-append}
use Rattle.mn_base.proofs.Bools.{no, or_right, and_on, test_same, at_most_is}
use Rattle.mn_base.proofs.Places.{all_filter}
use Rattle.mn_wiring.specs.Wiring.{channel}
use Rattle.mn_wiring.specs.declared.links.Dir.{Dir}
use Rattle.mn_wiring.specs.declared.links.Dir.TheVariants.{Forth, Back}
use Rattle.mn_flight.specs.declared.Item.{Item}
use Rattle.mn_flight.specs.Flying.{IsFlight, on_channel, off_channel, without}
use Rattle.mn_flight.specs.Earliest.{earliest, goes_before}
use Rattle.mn_flight.proofs.Members.{IsIn, filter_all, rest_ascends, first_below, contains_of_in, in_of_contains}
use Rattle.mn_flight.proofs.OnChannels.{Ascends, others, same_gone, less_stays, more_stays, on_it}
use Rattle.mn_flight.proofs.First.{earliest_is}
use Rattle.mn_flood_laws.specs.Flood.{Sent, flies_on, first_on, without_first}
use Rattle.mn_flood.specs.Queue.{sents_of, way_of, IsInPlace, IsSending}

-- 1. The test of a channel is that of link and direction

even_apart : (k l : ℕ) → 2 * k ≡ 2 * l + 1 → ⊥
even_apart k l e = omega (arith, e)

half : (k l : ℕ) → 2 * k ≡ 2 * l → k ≡ l
half k l e = omega (arith, e)

half_odd : (k l : ℕ) → 2 * k + 1 ≡ 2 * l + 1 → k ≡ l
half_odd k l e = omega (arith, e)

tests : (m n : ℕ) (b : Bool) → (b ≡ true → m ≡ n) → (b ≡ false → m ≢ n) → (m == n) ≡ b
tests m n true h g = elim (eqb_tells m n) [ inl e ↦ e.0 | inr e ↦ absurd (e.1 (h refl)) ]
tests m n false h g = elim (eqb_tells m n) [ inl e ↦ absurd (g refl e.1) | inr e ↦ e.0 ]

same : (k l : ℕ) (b : Bool) → (k == l) ≡ b → b ≡ true → k ≡ l
same k l b e q = elim (eqb_tells k l) [ inl f ↦ f.1 | inr f ↦ absurd (no (sym f.0 ∙ e ∙ q)) ]

other : (k l : ℕ) (b : Bool) → (k == l) ≡ b → b ≡ false → k ≢ l
other k l b e q f = elim (eqb_tells k l) [ inl g ↦ no (sym q ∙ sym e ∙ g.0) | inr g ↦ g.1 f ]

same_side : (k l : ℕ) (b : Bool) → (k == l) ≡ b → (2 * k == 2 * l) ≡ b
same_side k l b e = tests (2 * k) (2 * l) b (λ q. ap (λ x. 2 * x) (same k l b e q)) (λ q f. other k l b e q (half k l f))

odd_side : (k l : ℕ) (b : Bool) → (k == l) ≡ b → (2 * k + 1 == 2 * l + 1) ≡ b
odd_side k l b e = tests (2 * k + 1) (2 * l + 1) b (λ q. ap (λ x. 2 * x + 1) (same k l b e q)) (λ q f. other k l b e q (half_odd k l f))

and_true : (b : Bool) → (b && true) ≡ b
and_true true = refl
and_true false = refl

off : (b : Bool) → (b && false) ≡ false
off true = refl
off false = refl

by_parts : (k l : ℕ) (one dir : Dir) →
    (channel k one == channel l dir) ≡ flies_on l dir (record { link = k; dir = one; advert = record { origin = 0; number = 0; links = [] } })
by_parts k l Forth Forth = same_side k l (k == l) refl ∙ sym (and_true (k == l))
by_parts k l Back Back = odd_side k l (k == l) refl ∙ sym (and_true (k == l))
by_parts k l Forth Back = tests (2 * k) (2 * l + 1) ((k == l) && false) (λ q. absurd (no (sym (off (k == l)) ∙ q))) (λ q e. even_apart k l e)
by_parts k l Back Forth = tests (2 * k + 1) (2 * l) ((k == l) && false) (λ q. absurd (no (sym (off (k == l)) ∙ q))) (λ q e. even_apart l k (sym e))

whatever : (l : ℕ) (dir : Dir) (sent : Sent) →
    flies_on l dir (record { link = sent.link; dir = sent.dir; advert = record { origin = 0; number = 0; links = [] } }) ≡ flies_on l dir sent
whatever l Forth sent = refl
whatever l Back sent = refl

on_its_channel : (made l : ℕ) (dir : Dir) (item : Item Sent) → IsInPlace made item → (item.channel == channel l dir) ≡ flies_on l dir item.item
on_its_channel made l dir item h = ap (λ c. c == channel l dir) h.channel ∙ by_parts item.item.link l item.item.dir dir ∙ whatever l dir item.item

-- 2. What is taken, and what it leaves

abbrev sent_of : Item Sent → Sent
sent_of item = item.item

pub first_is : (made l : ℕ) (dir : Dir) (items : List (Item Sent)) → AllByRecursion (IsInPlace made) items →
    option_map sent_of (slice_get (on_channel (channel l dir) items) 0) ≡ first_on l dir (sents_of items)
first_is made l dir [] h = refl
first_is made l dir (x ∷ items) h =
    by (flies_on l dir x.item) (x.channel == channel l dir) (on_its_channel made l dir x h.0) refl (first_is made l dir items h.1)
  where
    by : (b c : Bool) → c ≡ flies_on l dir x.item → flies_on l dir x.item ≡ b →
        option_map sent_of (slice_get (on_channel (channel l dir) items) 0) ≡ first_on l dir (sents_of items) →
        option_map sent_of (slice_get (cond c (x ∷ on_channel (channel l dir) items) (on_channel (channel l dir) items)) 0)
        ≡ cond b (Some x.item) (first_on l dir (sents_of items))
    by true c e q f = ap (λ d. option_map sent_of (slice_get (cond d (x ∷ on_channel (channel l dir) items) (on_channel (channel l dir) items)) 0)) (e ∙ q)
    by false c e q f = ap (λ d. option_map sent_of (slice_get (cond d (x ∷ on_channel (channel l dir) items) (on_channel (channel l dir) items)) 0)) (e ∙ q) ∙ f

one_left : (made l : ℕ) (dir : Dir) (items : List (Item Sent)) (x : Item Sent) → AllByRecursion (IsInPlace made) items → Ascends items →
    slice_get (on_channel (channel l dir) items) 0 ≡ Some x → sents_of (filter (others x.number) items) ≡ without_first l dir (sents_of items)
one_left made l dir [] x h up g = refl
one_left made l dir (y ∷ items) x h up g =
    by (flies_on l dir y.item) (y.channel == channel l dir) refl (on_its_channel made l dir y h.0) refl
    (λ q. one_left made l dir items x h.1 (rest_ascends y items up) q) g
  where
    by : (b c : Bool) → (y.channel == channel l dir) ≡ c → c ≡ flies_on l dir y.item → flies_on l dir y.item ≡ b →
        (slice_get (on_channel (channel l dir) items) 0 ≡ Some x → sents_of (filter (others x.number) items) ≡ without_first l dir (sents_of items)) →
        slice_get (cond c (y ∷ on_channel (channel l dir) items) (on_channel (channel l dir) items)) 0 ≡ Some x →
        sents_of (filter (others x.number) (y ∷ items)) ≡ cond b (sents_of items) (y.item ∷ without_first l dir (sents_of items))
    by true true p e q f k =
        let same : y ≡ x = same_Some y x k in
        let gone : others x.number y ≡ false = subst (λ (z : Item Sent). others z.number y ≡ false) same (same_gone y.number) in
        let all : filter (others x.number) items ≡ items = filter_all (others x.number) items
        (λ z i. more_stays z.number x.number (subst (λ (w : Item Sent). w.number < z.number) same (first_below y items up z i))) in
        ap sents_of (ap (λ d. cond d (y ∷ filter (others x.number) items) (filter (others x.number) items)) gone ∙ all)
    by true false p e q f k = absurd (no (e ∙ q))
    by false true p e q f k = absurd (no (sym q ∙ sym e))
    by false false p e q f k =
        let stays : others x.number y ≡ true = less_stays y.number x.number (first_below y items up x (on_it (channel l dir) items 0 x k)) in
        ap sents_of (ap (λ d. cond d (y ∷ filter (others x.number) items) (filter (others x.number) items)) stays) ∙ ap (λ ss. y.item ∷ ss) (f k)

pub none_taken : (l : ℕ) (dir : Dir) (flying : List Sent) → first_on l dir flying ≡ None → without_first l dir flying ≡ flying
none_taken l dir [] e = refl
none_taken l dir (x ∷ more) e = by (flies_on l dir x) (none_taken l dir more) e
  where
    by : (b : Bool) → (first_on l dir more ≡ None → without_first l dir more ≡ more) → cond b (Some x) (first_on l dir more) ≡ None →
        cond b more (x ∷ without_first l dir more) ≡ x ∷ more
    by true f g = (cc)
    by false f g = ap (λ ss. x ∷ ss) (f g)

pub left_is : (links made l : ℕ) (dir : Dir) (items : List (Item Sent)) (taken : Option (Item Sent)) → IsSending links made items →
    taken ≡ slice_get (on_channel (channel l dir) items) 0 → sents_of (without taken items) ≡ without_first l dir (sents_of items)
left_is links made l dir items None h e =
    sym (none_taken l dir (sents_of items) (sym (first_is made l dir items h.each) ∙ ap (option_map sent_of) (sym e)))
left_is links made l dir items (Some x) h e = one_left made l dir items x h.each h.flight.ascending (sym e)

-- 3. What stays is in its place

pub all_without : (made : ℕ) (items : List (Item Sent)) (taken : Option (Item Sent)) → AllByRecursion (IsInPlace made) items →
    AllByRecursion (IsInPlace made) (without taken items)
all_without made items None h = h
all_without made items (Some x) h = all_filter (IsInPlace made) (λ item. not (item.number == x.number)) items h

pub all_off : (made c : ℕ) (items : List (Item Sent)) → AllByRecursion (IsInPlace made) items → AllByRecursion (IsInPlace made) (off_channel c items)
all_off made c items h = all_filter (IsInPlace made) (λ item. not (item.channel == c)) items h

-- a number is higher than those that were given before
later : (made : ℕ) (item : Item Sent) → IsInPlace made item → IsInPlace (made + 1) item
later made item h = record { channel = h.channel; due = h.due; number = omega (arith, h.number) }

all_later : (made : ℕ) (items : List (Item Sent)) (x : Item Sent) → AllByRecursion (IsInPlace made) items → IsInPlace (made + 1) x →
    AllByRecursion (IsInPlace (made + 1)) (items ++ x ∷ [])
all_later made [] x h g = (g, tt)
all_later made (y ∷ items) x h g = (later made y h.0, all_later made items x h.1 g)

pub sending_more : (links made channels c : ℕ) (items new : List (Item Sent)) (sent : Sent) → IsSending links made items → channels ≡ 2 * links →
    IsFlight channels new →
    c ≡ channel sent.link sent.dir → new ≡ items ++ record { channel = c; due = 0; number = made; item = sent } ∷ [] → IsSending links (made + 1) new
sending_more links made channels c items new sent h all f e g =
    record {
      flight = subst (λ n. IsFlight n new) all f;
      each = subst (AllByRecursion (IsInPlace (made + 1))) (sym g) (all_later made items _ h.each (record { channel = e; due = refl; number = omega arith }));
    }

pub sending_less : (links made channels : ℕ) (new : List (Item Sent)) → channels ≡ 2 * links → IsFlight channels new → AllByRecursion (IsInPlace made) new →
    IsSending links made new
sending_less links made channels new all f each = record { flight = subst (λ n. IsFlight n new) all f; each = each }

first_sent : (items : List (Item Sent)) →
    option_map way_of (slice_get (sents_of items) 0) ≡ option_map (λ (item : Item Sent). way_of item.item) (slice_get items 0)
first_sent [] = refl
first_sent (x ∷ items) = refl

pub sents_more : (items new : List (Item Sent)) (x : Item Sent) → new ≡ items ++ x ∷ [] → sents_of new ≡ sents_of items ++ x.item ∷ []
sents_more items new x e = ap sents_of e ∙ map-append sent_of items (x ∷ [])

pub all_numbered : (made : ℕ) (items : List (Item Sent)) → AllByRecursion (IsInPlace made) items → AllByRecursion (λ item. item.number < made) items
all_numbered made [] h = tt
all_numbered made (x ∷ items) h = (h.0.number, all_numbered made items h.1)

-- 4. What flies over a link is dropped

both_off : (l : ℕ) (sent : Sent) → (not (flies_on l Forth sent) && not (flies_on l Back sent)) ≡ not (sent.link == l)
both_off l sent = by (sent.link == l) sent.dir
  where
    by : (b : Bool) (dir : Dir) →
        (not (b && elim dir [ Forth ↦ true | Back ↦ false ]) && not (b && elim dir [ Forth ↦ false | Back ↦ true ])) ≡ not b
    by true Forth = refl
    by true Back = refl
    by false Forth = refl
    by false Back = refl

pub off_link : (made l : ℕ) (items : List (Item Sent)) → AllByRecursion (IsInPlace made) items →
    sents_of (off_channel (channel l Back) (off_channel (channel l Forth) items)) ≡ filter (λ sent. not (sent.link == l)) (sents_of items)
off_link made l [] h = refl
off_link made l (x ∷ items) h =
    by (x.channel == channel l Forth) (x.channel == channel l Back) (not (x.item.link == l)) refl
    (ap (λ k. not k && not (x.channel == channel l Back)) (on_its_channel made l Forth x h.0)
    ∙ ap (λ k. not (flies_on l Forth x.item) && not k) (on_its_channel made l Back x h.0) ∙ both_off l x.item)
    (off_link made l items h.1)
  where
    by : (b c d : Bool) → (x.channel == channel l Back) ≡ c → (not b && not c) ≡ d →
        sents_of (off_channel (channel l Back) (off_channel (channel l Forth) items)) ≡ filter (λ sent. not (sent.link == l)) (sents_of items) →
        sents_of (off_channel (channel l Back) (cond (not b) (x ∷ off_channel (channel l Forth) items) (off_channel (channel l Forth) items)))
        ≡ cond d (x.item ∷ filter (λ sent. not (sent.link == l)) (sents_of items)) (filter (λ sent. not (sent.link == l)) (sents_of items))
    by true c d e q f = f ∙ ap (λ k. cond k (x.item ∷ filter (λ sent. not (sent.link == l)) (sents_of items))
        (filter (λ sent. not (sent.link == l)) (sents_of items))) q
    by false true d e q f =
        ap (λ k. sents_of (cond (not k) (x ∷ off_channel (channel l Back) (off_channel (channel l Forth) items))
        (off_channel (channel l Back) (off_channel (channel l Forth) items)))) e
        ∙ f ∙ ap (λ k. cond k (x.item ∷ filter (λ sent. not (sent.link == l)) (sents_of items)) (filter (λ sent. not (sent.link == l)) (sents_of items))) q
    by false false d e q f =
        ap (λ k. sents_of (cond (not k) (x ∷ off_channel (channel l Back) (off_channel (channel l Forth) items))
        (off_channel (channel l Back) (off_channel (channel l Forth) items)))) e
        ∙ ap (λ ss. x.item ∷ ss) f ∙ ap (λ k. cond k (x.item ∷ filter (λ sent. not (sent.link == l)) (sents_of items))
        (filter (λ sent. not (sent.link == l)) (sents_of items))) q

-- 5. The item that was sent first of all is the earliest

pub in_all : {A : Type 0} (P : A → Type 0) (xs : List A) (x : A) → AllByRecursion P xs → IsIn x xs → P x
in_all P [] x h i = absurd i
in_all P (y ∷ ys) x h i = elim i [ inl e ↦ subst P (sym e) h.0 | inr j ↦ in_all P ys x h.1 j ]

goes_first : (x y : Item Sent) → x.due ≡ 0 → y.due ≡ 0 → x.number ≤ y.number → goes_before x y ≡ true
goes_first x y e f h =
    or_right (nat_lt x.due y.due) ((x.due == y.due) && nat_le x.number y.number)
    (and_on (x.due == y.due) (nat_le x.number y.number) (test_same x.due y.due (e ∙ sym f)) (at_most_is x.number y.number h))

no_later : (m n : ℕ) → m < n → m ≤ n
no_later m n h = omega (arith, h)

same_number : (x y : Item Sent) → y ≡ x → x.number ≤ y.number
same_number x y e = omega (arith, ap (λ (z : Item Sent). z.number) e)

pub earliest_of : (links made : ℕ) (items : List (Item Sent)) → IsSending links made items → earliest 0 items ≡ slice_get items 0
earliest_of links made [] h = refl
earliest_of links made (x ∷ items) h = earliest_is (2 * links) 0 (x ∷ items) x h.flight (record {
  flies = contains_of_in (x ∷ items) x (inl refl);
  due = omega (arith, h.each.0.due);
  first = λ y c due. let i = in_of_contains (x ∷ items) y c in
      goes_first x y h.each.0.due (in_all (IsInPlace made) (x ∷ items) y h.each i).due
      (elim i [ inl e ↦ same_number x y e | inr j ↦ no_later x.number y.number (first_below x items h.flight.ascending y j) ]);
})

pub first_way : (links made : ℕ) (items : List (Item Sent)) (found : Option (Item Sent)) → IsSending links made items → found ≡ earliest 0 items →
    option_map way_of (slice_get (sents_of items) 0) ≡ option_map (λ (item : Item Sent). way_of item.item) found
first_way links made items found h e = first_sent items ∙ ap (option_map (λ (item : Item Sent). way_of item.item)) (sym (earliest_of links made items h)
    ∙ sym e)
