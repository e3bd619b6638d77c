-- Calls of a flight, as the list of what flies sees them.
use Rattle.std.proofs.Common.{ℕ, zero, suc, ◌≡◌, ◌≢◌, ◌+◌, ◌*◌, ◌<◌, inl, inr, Bool, true, false, cond, List, [], ◌∷◌, ◌++◌, refl, arith, sym, ◌∙◌, ap, subst}
use Rattle.std.proofs.Common.{Some, None, filter, Option, ◌≤◌}
use Rattle.std.specs.Prelude.{◌==◌, ◌&&◌, not, slice_get, option_map, is_some, nat_lt, nat_le}
use Rattle.std.specs.List.{AllByRecursion}
use Rattle.std.proofs.lemmas.Bool.Decides.{eqb_tells}
use Rattle.std.proofs.lemmas.Option.{same_Some}
use Rattle.std.proofs.lemmas.List.{map-append}
use Rattle.mn_base.proofs.Bools.{no, or_right, and_on, test_same, at_most_is, same_numbers, same_test}
use Rattle.mn_base.proofs.Places.{all_filter}
use Rattle.mn_flight.specs.declared.Item.{Item}
use Rattle.mn_flight.specs.Flying.{IsFlight, on_channel, off_channel, without}
use Rattle.mn_flight.specs.Earliest.{earliest, goes_before}
use Rattle.mn_flight.proofs.Members.{IsIn, filter_all, rest_ascends, first_below, contains_of_in, in_of_contains}
use Rattle.mn_flight.proofs.OnChannels.{Ascends, others, same_gone, less_stays, more_stays, on_it}
use Rattle.mn_flight.proofs.First.{earliest_is}
use Rattle.mn_mail.specs.Mail.{Letter, is_from_to, is_between, first_from_to, without_first}
use Rattle.mn_mail.specs.Sending.{channel, letters_of, IsInPlace, IsMail}

-- 1. The test of a channel is that of two nodes

over : (n l m j : ℕ) → m < n → m ≡ suc l * n + j → ⊥
over n l m j h e = omega (arith, h, e)

pair_one : (n k l m j : ℕ) → m < n → j < n → k * n + m ≡ l * n + j → (k ≡ l) × (m ≡ j)
pair_one n zero zero m j h g e = (refl, omega (arith, e))
pair_one n zero (suc l) m j h g e = absurd (omega (arith, h, e))
pair_one n (suc k) zero m j h g e = absurd (omega (arith, g, e))
pair_one n (suc k) (suc l) m j h g e = let less = pair_one n k l m j h g (omega (arith, e)) in (ap suc less.0, less.1)

both_tests : (n k l m j : ℕ) → m < n → j < n → (k * n + m == l * n + j) ≡ ((k == l) && (m == j))
both_tests n k l m j h g = elim (eqb_tells (k * n + m) (l * n + j)) [
  | inl q ↦ (let e = pair_one n k l m j h g q.1 in
      q.0 ∙ sym (ap (λ x. (x == l) && (m == j)) e.0 ∙ ap (λ x. (l == l) && (x == j)) e.1 ∙ ap (λ b. b && (j == j)) (same_test l) ∙ same_test j))
  | inr q ↦ q.0 ∙ sym (apart (k == l) (m == j) refl refl q.1)
]
  where
    apart : (a b : Bool) → (k == l) ≡ a → (m == j) ≡ b → k * n + m ≢ l * n + j → (a && b) ≡ false
    apart false b e f r = refl
    apart true false e f r = refl
    apart true true e f r = absurd (r (ap (λ x. x * n + m) (same_numbers k l e) ∙ ap (λ x. l * n + x) (same_numbers m j f)))

pub on_its_channel : (n made from to : ℕ) (item : Item Letter) → to < n → IsInPlace n made item →
    (item.channel == channel n from to) ≡ is_from_to from to item.item
on_its_channel n made from to item below h =
    ap (λ c. c == channel n from to) h.channel ∙ both_tests n item.item.from from item.item.to to h.to below

-- 2. What is taken, and what it leaves

abbrev pub letter_of : Item Letter → Letter
letter_of item = item.item

-- what a call answers of the channel that the mail's nodes give it
pub first_on : (items : List (Item Letter)) (n m from to k : ℕ) {first : Option (Item Letter)} → first ≡ slice_get (on_channel k items) 0 →
    k ≡ channel m from to → m ≡ n → first ≡ slice_get (on_channel (channel n from to) items) 0
first_on items n m from to k e on same = e ∙ ap (λ x. slice_get (on_channel x items) 0) (on ∙ ap (λ x. channel x from to) same)

pub first_is : (n made from to : ℕ) (items : List (Item Letter)) → to < n → AllByRecursion (IsInPlace n made) items →
    option_map letter_of (slice_get (on_channel (channel n from to) items) 0) ≡ first_from_to from to (letters_of items)
first_is n made from to [] below h = refl
first_is n made from to (x ∷ items) below h =
    by (is_from_to from to x.item) (x.channel == channel n from to) (on_its_channel n made from to x below h.0) refl (first_is n made from to items below h.1)
  where
    by : (b c : Bool) → c ≡ is_from_to from to x.item → is_from_to from to x.item ≡ b →
        option_map letter_of (slice_get (on_channel (channel n from to) items) 0) ≡ first_from_to from to (letters_of items) →
        option_map letter_of (slice_get (cond c (x ∷ on_channel (channel n from to) items) (on_channel (channel n from to) items)) 0)
        ≡ cond b (Some x.item) (first_from_to from to (letters_of items))
    by true c e q f = ap (λ d. option_map letter_of (slice_get (cond d (x ∷ on_channel (channel n from to) items) (on_channel (channel n from to) items)) 0)) (e
        ∙ q)
    by false c e q f = ap (λ d. option_map letter_of (slice_get (cond d (x ∷ on_channel (channel n from to) items) (on_channel (channel n from to) items)) 0))
        (e ∙ q) ∙ f

one_left : (n made from to : ℕ) (items : List (Item Letter)) (x : Item Letter) → to < n → AllByRecursion (IsInPlace n made) items → Ascends items →
    slice_get (on_channel (channel n from to) items) 0 ≡ Some x → letters_of (filter (others x.number) items) ≡ without_first from to (letters_of items)
one_left n made from to [] x below h up g = refl
one_left n made from to (y ∷ items) x below h up g =
    by (is_from_to from to y.item) (y.channel == channel n from to) refl (on_its_channel n made from to y below h.0) refl
    (λ q. one_left n made from to items x below h.1 (rest_ascends y items up) q) g
  where
    by : (b c : Bool) → (y.channel == channel n from to) ≡ c → c ≡ is_from_to from to y.item → is_from_to from to y.item ≡ b →
        (slice_get (on_channel (channel n from to) items) 0 ≡ Some x → letters_of (filter (others x.number) items) ≡ without_first from to (letters_of items)) →
        slice_get (cond c (y ∷ on_channel (channel n from to) items) (on_channel (channel n from to) items)) 0 ≡ Some x →
        letters_of (filter (others x.number) (y ∷ items)) ≡ cond b (letters_of items) (y.item ∷ without_first from to (letters_of items))
    by true true p e q f k =
        let same : y ≡ x = same_Some y x k in
        let gone : others x.number y ≡ false = subst (λ (z : Item Letter). others z.number y ≡ false) same (same_gone y.number) in
        let all : filter (others x.number) items ≡ items = filter_all (others x.number) items
        (λ z i. more_stays z.number x.number (subst (λ (w : Item Letter). w.number < z.number) same (first_below y items up z i))) in
        ap letters_of (ap (λ d. cond d (y ∷ filter (others x.number) items) (filter (others x.number) items)) gone ∙ all)
    by true false p e q f k = absurd (no (e ∙ q))
    by false true p e q f k = absurd (no (sym q ∙ sym e))
    by false false p e q f k =
        let stays : others x.number y ≡ true = less_stays y.number x.number (first_below y items up x (on_it (channel n from to) items 0 x k)) in
        ap letters_of (ap (λ d. cond d (y ∷ filter (others x.number) items) (filter (others x.number) items)) stays) ∙ ap (λ ss. y.item ∷ ss) (f k)

pub none_taken : (from to : ℕ) (flying : List Letter) → first_from_to from to flying ≡ None → without_first from to flying ≡ flying
none_taken from to [] e = refl
none_taken from to (x ∷ more) e = by (is_from_to from to x) (none_taken from to more) e
  where
    by : (b : Bool) → (first_from_to from to more ≡ None → without_first from to more ≡ more) → cond b (Some x) (first_from_to from to more) ≡ None →
        cond b more (x ∷ without_first from to more) ≡ x ∷ more
    by true f g = (cc)
    by false f g = ap (λ ss. x ∷ ss) (f g)

pub left_is : (n made channels from to : ℕ) (items : List (Item Letter)) (taken : Option (Item Letter)) → to < n → IsMail n made channels items →
    taken ≡ slice_get (on_channel (channel n from to) items) 0 → letters_of (without taken items) ≡ without_first from to (letters_of items)
left_is n made channels from to items None below h e =
    sym (none_taken from to (letters_of items) (sym (first_is n made from to items below h.each) ∙ ap (option_map letter_of) (sym e)))
left_is n made channels from to items (Some x) below h e = one_left n made from to items x below h.each h.flight.ascending (sym e)

-- 3. What stays is in its place

all_without : (n made : ℕ) (items : List (Item Letter)) (taken : Option (Item Letter)) → AllByRecursion (IsInPlace n made) items →
    AllByRecursion (IsInPlace n made) (without taken items)
all_without n made items None h = h
all_without n made items (Some x) h = all_filter (IsInPlace n made) (λ item. not (item.number == x.number)) items h

all_off : (n made c : ℕ) (items : List (Item Letter)) → AllByRecursion (IsInPlace n made) items → AllByRecursion (IsInPlace n made) (off_channel c items)
all_off n made c items h = all_filter (IsInPlace n made) (λ item. not (item.channel == c)) items h

mail_with : (n made channels later : ℕ) (items new : List (Item Letter)) → IsMail n made channels items → later ≡ channels → IsFlight later new →
    AllByRecursion (IsInPlace n made) new → IsMail n made later new
mail_with n made channels later items new h same f each = record { few = h.few; channels_are = same ∙ h.channels_are; flight = f; each = each }

pub mail_taken : (n made channels later : ℕ) (items new : List (Item Letter)) (taken : Option (Item Letter)) → IsMail n made channels items → later ≡ channels →
    IsFlight later new → new ≡ without taken items → IsMail n made later new
mail_taken n made channels later items new taken h same f e =
    mail_with n made channels later items new h same f (subst (AllByRecursion (IsInPlace n made)) (sym e) (all_without n made items taken h.each))

pub mail_off : (n made channels later c : ℕ) (items new : List (Item Letter)) → IsMail n made channels items → later ≡ channels →
    IsFlight later new → new ≡ off_channel c items → IsMail n made later new
mail_off n made channels later c items new h same f e =
    mail_with n made channels later items new h same f (subst (AllByRecursion (IsInPlace n made)) (sym e) (all_off n made c items h.each))

-- a number is higher than those that were given before
later_is : (n made : ℕ) (item : Item Letter) → IsInPlace n made item → IsInPlace n (made + 1) item
later_is n made item h = record { channel = h.channel; to = h.to; due = h.due; number = omega (arith, h.number) }

all_later : (n made : ℕ) (items : List (Item Letter)) (x : Item Letter) → AllByRecursion (IsInPlace n made) items → IsInPlace n (made + 1) x →
    AllByRecursion (IsInPlace n (made + 1)) (items ++ x ∷ [])
all_later n made [] x h g = (g, tt)
all_later n made (y ∷ items) x h g = (later_is n made y h.0, all_later n made items x h.1 g)

pub mail_more : (n made channels later c : ℕ) (items new : List (Item Letter)) (letter : Letter) → IsMail n made channels items → later ≡ channels →
    IsFlight later new → c ≡ channel n letter.from letter.to → letter.to < n →
    new ≡ items ++ record { channel = c; due = 0; number = made; item = letter } ∷ [] → IsMail n (made + 1) later new
mail_more n made channels later c items new letter h same f e below g = record {
  few = h.few;
  channels_are = same ∙ h.channels_are;
  flight = f;
  each = subst (AllByRecursion (IsInPlace n (made + 1))) (sym g)
      (all_later n made items _ h.each (record { channel = e; to = below; due = refl; number = omega arith }));
}

pub numbered : (n made : ℕ) (items : List (Item Letter)) → AllByRecursion (IsInPlace n made) items → AllByRecursion (λ item. item.number < made) items
numbered n made [] h = tt
numbered n made (x ∷ items) h = (h.0.number, numbered n made items h.1)

pub letters_more : (items new : List (Item Letter)) (x : Item Letter) → new ≡ items ++ x ∷ [] → letters_of new ≡ letters_of items ++ x.item ∷ []
letters_more items new x e = ap letters_of e ∙ map-append letter_of items (x ∷ [])

-- 4. What flies between two nodes is dropped

both_off : (a b : ℕ) (letter : Letter) → (not (is_from_to a b letter) && not (is_from_to b a letter)) ≡ not (is_between a b letter)
both_off a b letter = by (is_from_to a b letter) (is_from_to b a letter)
  where
    by : (p q : Bool) → (not p && not q) ≡ not (cond p true q)
    by true q = refl
    by false q = refl

pub off_both : (n made a b : ℕ) (items : List (Item Letter)) → a < n → b < n → AllByRecursion (IsInPlace n made) items →
    letters_of (off_channel (channel n b a) (off_channel (channel n a b) items)) ≡ filter (λ letter. not (is_between a b letter)) (letters_of items)
off_both n made a b [] first second h = refl
off_both n made a b (x ∷ items) first second h =
    by (x.channel == channel n a b) (x.channel == channel n b a) (not (is_between a b x.item)) refl
    (ap (λ k. not k && not (x.channel == channel n b a)) (on_its_channel n made a b x second h.0)
    ∙ ap (λ k. not (is_from_to a b x.item) && not k) (on_its_channel n made b a x first h.0) ∙ both_off a b x.item)
    (off_both n made a b items first second h.1)
  where
    by : (p q d : Bool) → (x.channel == channel n b a) ≡ q → (not p && not q) ≡ not (is_between a b x.item) →
        letters_of (off_channel (channel n b a) (off_channel (channel n a b) items)) ≡ filter (λ letter. not (is_between a b letter)) (letters_of items) →
        letters_of (off_channel (channel n b a) (cond (not p) (x ∷ off_channel (channel n a b) items) (off_channel (channel n a b) items)))
        ≡ cond (not (is_between a b x.item)) (x.item ∷ filter (λ letter. not (is_between a b letter)) (letters_of items))
        (filter (λ letter. not (is_between a b letter)) (letters_of items))
    by true q d e s f =
        f ∙ ap (λ k. cond k (x.item ∷ filter (λ letter. not (is_between a b letter)) (letters_of items))
        (filter (λ letter. not (is_between a b letter)) (letters_of items))) s
    by false true d e s f =
        ap (λ k. letters_of (cond (not k) (x ∷ off_channel (channel n b a) (off_channel (channel n a b) items))
        (off_channel (channel n b a) (off_channel (channel n a b) items)))) e
        ∙ f ∙ ap (λ k. cond k (x.item ∷ filter (λ letter. not (is_between a b letter)) (letters_of items))
        (filter (λ letter. not (is_between a b letter)) (letters_of items))) s
    by false false d e s f =
        ap (λ k. letters_of (cond (not k) (x ∷ off_channel (channel n b a) (off_channel (channel n a b) items))
        (off_channel (channel n b a) (off_channel (channel n a b) items)))) e
        ∙ ap (λ ss. x.item ∷ ss) f
        ∙ ap (λ k. cond k (x.item ∷ filter (λ letter. not (is_between a b letter)) (letters_of items))
        (filter (λ letter. not (is_between a b letter)) (letters_of items))) s

-- 5. The item that was sent first of all is the earliest

in_all : {A : Type 0} (P : A → Type 0) (xs : List A) (x : A) → AllByRecursion P xs → IsIn x xs → P x
in_all P [] x h i = absurd i
in_all P (y ∷ ys) x h i = elim i [ inl e ↦ subst P (sym e) h.0 | inr j ↦ in_all P ys x h.1 j ]

goes_first : (x y : Item Letter) → x.due ≡ 0 → y.due ≡ 0 → x.number ≤ y.number → goes_before x y ≡ true
goes_first x y e f h =
    or_right (nat_lt x.due y.due) ((x.due == y.due) && nat_le x.number y.number)
    (and_on (x.due == y.due) (nat_le x.number y.number) (test_same x.due y.due (e ∙ sym f)) (at_most_is x.number y.number h))

no_later : (m n : ℕ) → m < n → m ≤ n
no_later m n h = omega (arith, h)

same_number : (x y : Item Letter) → y ≡ x → x.number ≤ y.number
same_number x y e = omega (arith, ap (λ (z : Item Letter). z.number) e)

earliest_of : (n made channels : ℕ) (items : List (Item Letter)) → IsMail n made channels items → earliest 0 items ≡ slice_get items 0
earliest_of n made channels [] h = refl
earliest_of n made channels (x ∷ items) h = earliest_is channels 0 (x ∷ items) x h.flight (record {
  flies = contains_of_in (x ∷ items) x (inl refl);
  due = omega (arith, h.each.0.due);
  first = λ y c due. let i = in_of_contains (x ∷ items) y c in
      goes_first x y h.each.0.due (in_all (IsInPlace n made) (x ∷ items) y h.each i).due
      (elim i [ inl e ↦ same_number x y e | inr j ↦ no_later x.number y.number (first_below x items h.flight.ascending y j) ]);
})

first_letter : (items : List (Item Letter)) → slice_get (letters_of items) 0 ≡ option_map letter_of (slice_get items 0)
first_letter [] = refl
first_letter (x ∷ items) = refl

pub first_sent : (n made channels : ℕ) (items : List (Item Letter)) (found : Option (Item Letter)) → IsMail n made channels items → found ≡ earliest 0 items →
    option_map letter_of found ≡ slice_get (letters_of items) 0
first_sent n made channels items found h e = ap (option_map letter_of) (e ∙ earliest_of n made channels items h) ∙ sym (first_letter items)

pub some_first : (n made from to : ℕ) (items : List (Item Letter)) → to < n → AllByRecursion (IsInPlace n made) items →
    is_some (slice_get (on_channel (channel n from to) items) 0) ≡ is_some (first_from_to from to (letters_of items))
some_first n made from to items below h =
    as_some (slice_get (on_channel (channel n from to) items) 0) ∙ ap is_some (first_is n made from to items below h)
  where
    as_some : (o : Option (Item Letter)) → is_some o ≡ is_some (option_map letter_of o)
    as_some None = refl
    as_some (Some x) = refl
