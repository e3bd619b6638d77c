-- The item of a number in a flight is the ledger's item of that number, and stands at the same place of its channel.
use Rattle.std.proofs.Common.{ℕ, suc, ◌≡◌, ◌+◌, ◌<◌, ◌≤◌, Bool, true, false, cond, List, [], ◌∷◌, ◌++◌, length, map, filter, refl, arith, sym, ap, ◌∙◌}
use Rattle.std.proofs.Common.{subst, Option, Some, None}
use Rattle.std.specs.Prelude.{◌==◌, ◌&&◌, nat_lt, find, slice_get, if◌then◌else◌}
use Rattle.std.proofs.lemmas.List.{map-append}
use Rattle.std.proofs.lemmas.List.Elements.{filter-append}
use Rattle.std.proofs.lemmas.Option.{same_Some}
use Rattle.mn_base.proofs.Bools.{same_test, other_test, same_numbers, less_is, not_less, and_false}
use Rattle.mn_flight.specs.declared.Item.{Item as ItemOf}
use Rattle.mn_flight.specs.Flying.{on_channel}
use Rattle.mn_ledger.specs.Items.{Channel, Load, Item, same_channel, items_on, loads_on}
use Rattle.mn_ledger_laws.specs.Flight.{AreAscending}
use Rattle.mn_timetable_laws.specs.Keys.{Key, Numbering, key_of, keys_in, keys_on, with_key, Names}
use Rattle.mn_net_parts_laws.proofs.Counted.{counted_in}
use Rattle.mn_net_laws.proofs.OnChannels.{counted_names}
use Rattle.mn_net_laws.specs.Refusal.{count_on}

first_is : {A : Type 0} (x y : A) (xs ys : List A) → x ∷ xs ≡ y ∷ ys → x ≡ y
first_is x y xs ys e = cc

rest_is : {A : Type 0} (x y : A) (xs ys : List A) → x ∷ xs ≡ y ∷ ys → xs ≡ ys
rest_is x y xs ys e = cc

abbrev key_at : ℕ → Item → Key
key_at c i = record { channel = c; due = i.due; number = i.number }

-- 1. Where the item is in both lists

module _ {T : Type 0} (number : Numbering) (n : ℕ) where
  pub record IsFound (xs : List (ItemOf T)) (items : List Item) (x : ItemOf T) : Type 0 where
    pub item : Item
    pub first : List (ItemOf T)
    pub last : List (ItemOf T)
    pub before : List Item
    pub after : List Item
    pub flight : xs ≡ first ++ x ∷ last
    pub ledger : items ≡ before ++ item ∷ after
    pub keys : keys_in first ≡ keys_on number before
    pub on : number item.on ≡ Some x.channel
    pub due : x.due ≡ item.due
    pub its : item.number ≡ n

  pub found : (items : List Item) (xs : List (ItemOf T)) (x : ItemOf T) → keys_in xs ≡ keys_on number items → find (λ item. item.number == n) xs ≡ Some x →
      IsFound xs items x
  found [] [] x k f = absurd (let none : None ≡ Some x → ⊥ = (λ e. cc) in none f)
  found [] (y ∷ ys) x k f = absurd (let none : key_of y ∷ keys_in ys ≡ [] → ⊥ = (λ e. cc) in none k)
  found (i ∷ is) xs x k f = by (number i.on) refl xs k f (λ ys e g. found is ys x e g)
    where
      by : (o : Option ℕ) → number i.on ≡ o → (xs : List (ItemOf T)) → keys_in xs ≡ with_key o i (keys_on number is) →
          find (λ item. item.number == n) xs ≡ Some x →
          ((ys : List (ItemOf T)) → keys_in ys ≡ keys_on number is → find (λ item. item.number == n) ys ≡ Some x → IsFound ys is x) →
          IsFound xs (i ∷ is) x
      by None e xs k f hyp =
          let rest = hyp xs k f in
          record {
            item = rest.item;
            first = rest.first;
            last = rest.last;
            before = i ∷ rest.before;
            after = rest.after;
            flight = rest.flight;
            ledger = ap (λ l. i ∷ l) rest.ledger;
            keys = rest.keys ∙ sym (ap (λ o. with_key o i (keys_on number rest.before)) e);
            on = rest.on;
            due = rest.due;
            its = rest.its;
          }
      by (Some c) e [] k f hyp = absurd (let none : [] ≡ key_at c i ∷ keys_on number is → ⊥ = (λ q. cc) in none k)
      by (Some c) e (y ∷ ys) k f hyp = split (y.number == n) refl f
        where
          same : key_of y ≡ key_at c i
          same = first_is (key_of y) (key_at c i) (keys_in ys) (keys_on number is) k

          others : keys_in ys ≡ keys_on number is
          others = rest_is (key_of y) (key_at c i) (keys_in ys) (keys_on number is) k

          split : (b : Bool) → (y.number == n) ≡ b → (if b then Some y else find (λ item. item.number == n) ys) ≡ Some x → IsFound (y ∷ ys) (i ∷ is) x
          split true q g =
              let it : y ≡ x = same_Some y x g in
              record {
                item = i;
                first = [];
                last = ys;
                before = [];
                after = is;
                flight = ap (λ (z : ItemOf T). z ∷ ys) it;
                ledger = refl;
                keys = refl;
                on = e ∙ ap Some (sym (ap (λ (z : Key). z.channel) same) ∙ ap (λ (z : ItemOf T). z.channel) it);
                due = sym (ap (λ (z : ItemOf T). z.due) it) ∙ ap (λ (z : Key). z.due) same;
                its = sym (ap (λ (z : Key). z.number) same) ∙ same_numbers y.number n q;
              }
          split false q g =
              let rest = hyp ys others g in
              record {
                item = rest.item;
                first = y ∷ rest.first;
                last = rest.last;
                before = i ∷ rest.before;
                after = rest.after;
                flight = ap (λ l. y ∷ l) rest.flight;
                ledger = ap (λ l. i ∷ l) rest.ledger;
                keys = ap (λ l. key_of y ∷ l) rest.keys ∙ ap (λ (z : Key). z ∷ keys_on number rest.before) same
                    ∙ sym (ap (λ o. with_key o i (keys_on number rest.before)) e);
                on = rest.on;
                due = rest.due;
                its = rest.its;
              }

  -- none of the flight's items has the number: the ledger's is in another flight
  pub elsewhere : (items : List Item) (xs : List (ItemOf T)) (i : Item) → keys_in xs ≡ keys_on number items →
      find (λ item. item.number == n) xs ≡ None → find (λ item. item.number == n) items ≡ Some i → number i.on ≡ None
  elsewhere [] xs i k f g = absurd (let none : None ≡ Some i → ⊥ = (λ e. cc) in none g)
  elsewhere (j ∷ js) xs i k f g = by (number j.on) refl xs k f (λ ys e h p. elsewhere js ys i e h p)
    where
      by : (o : Option ℕ) → number j.on ≡ o → (xs : List (ItemOf T)) → keys_in xs ≡ with_key o j (keys_on number js) →
          find (λ item. item.number == n) xs ≡ None →
          ((ys : List (ItemOf T)) → keys_in ys ≡ keys_on number js → find (λ item. item.number == n) ys ≡ None →
          find (λ item. item.number == n) js ≡ Some i → number i.on ≡ None) → number i.on ≡ None
      by None e xs k f hyp = here (j.number == n) g
        where
          here : (b : Bool) → (if b then Some j else find (λ item. item.number == n) js) ≡ Some i → number i.on ≡ None
          here true p = sym (ap (λ (z : Item). number z.on) (same_Some j i p)) ∙ e
          here false p = hyp xs k f p
      by (Some c) e [] k f hyp = absurd (let none : [] ≡ key_at c j ∷ keys_on number js → ⊥ = (λ q. cc) in none k)
      by (Some c) e (y ∷ ys) k f hyp = split (y.number == n) refl f
        where
          same : key_of y ≡ key_at c j
          same = first_is (key_of y) (key_at c j) (keys_in ys) (keys_on number js) k

          split : (b : Bool) → (y.number == n) ≡ b → (if b then Some y else find (λ item. item.number == n) ys) ≡ None → number i.on ≡ None
          split true q p = absurd (let none : Some y ≡ None → ⊥ = (λ r. cc) in none p)
          split false q p =
              hyp ys (rest_is (key_of y) (key_at c j) (keys_in ys) (keys_on number js) k) p
              (sym (ap (λ b. if b then Some j else find (λ item. item.number == n) js) (ap (λ m. m == n) (sym (ap (λ (z : Key). z.number) same)) ∙ q)) ∙ g)

-- 2. Numbers ascend: no other item has the number, and those before it on its channel are those made before it

up_to : (low high : ℕ) (before after : List Item) (i : Item) → AreAscending low high (before ++ i ∷ after) → low ≤ i.number
up_to low high [] after i h = h.0
up_to low high (b ∷ bs) after i h =
    let first : low ≤ b.number = h.0 in
    let rest : suc b.number ≤ i.number = up_to (suc b.number) high bs after i h.1 in
    omega (arith, first, rest)

pub one_found : (low high : ℕ) (before after : List Item) (i : Item) → AreAscending low high (before ++ i ∷ after) →
    find (λ item. item.number == i.number) (before ++ i ∷ after) ≡ Some i
one_found low high [] after i h = ap (λ b. if b then Some i else find (λ item. item.number == i.number) after) (same_test i.number)
one_found low high (b ∷ bs) after i h =
    let less : suc b.number ≤ i.number = up_to (suc b.number) high bs after i h.1 in
    ap (λ t. if t then Some b else find (λ item. item.number == i.number) (bs ++ i ∷ after))
    (other_test b.number i.number (λ e. absurd (apart b.number i.number less e)))
    ∙ one_found (suc b.number) high bs after i h.1
  where
    apart : (m k : ℕ) → suc m ≤ k → m ≡ k → ⊥
    apart m k g e = omega (arith, g, e)

abbrev earlier_on : Item → List Item → List Item
earlier_on i items = filter (λ other. same_channel i.on other.on && nat_lt other.number i.number) items

none_later : (low high : ℕ) (i : Item) (after : List Item) → i.number < low → AreAscending low high after → earlier_on i after ≡ []
none_later low high i [] less h = refl
none_later low high i (a ∷ more) less h =
    let first : low ≤ a.number = h.0 in
    ap (λ b. cond (same_channel i.on a.on && b) (a ∷ earlier_on i more) (earlier_on i more)) (not_less a.number i.number (omega (arith, first, less)))
    ∙ ap (λ b. cond b (a ∷ earlier_on i more) (earlier_on i more)) (and_false (same_channel i.on a.on))
    ∙ none_later (suc a.number) high i more (omega (arith, first, less)) h.1

pub its_place : (low high : ℕ) (before after : List Item) (i : Item) → AreAscending low high (before ++ i ∷ after) →
    earlier_on i (before ++ i ∷ after) ≡ items_on i.on before
its_place low high [] after i h =
    ap (λ b. cond (same_channel i.on i.on && b) (i ∷ earlier_on i after) (earlier_on i after)) (not_less i.number i.number (omega arith))
    ∙ ap (λ b. cond b (i ∷ earlier_on i after) (earlier_on i after)) (and_false (same_channel i.on i.on))
    ∙ none_later (suc i.number) high i after (omega arith) h.1
its_place low high (b ∷ bs) after i h =
    let less : suc b.number ≤ i.number = up_to (suc b.number) high bs after i h.1 in
    ap (λ t. cond (same_channel i.on b.on && t) (b ∷ earlier_on i (bs ++ i ∷ after)) (earlier_on i (bs ++ i ∷ after)))
    (less_is b.number i.number less)
    ∙ by (same_channel i.on b.on) (its_place (suc b.number) high bs after i h.1)
  where
    by : (c : Bool) → earlier_on i (bs ++ i ∷ after) ≡ items_on i.on bs →
        cond (c && true) (b ∷ earlier_on i (bs ++ i ∷ after)) (earlier_on i (bs ++ i ∷ after)) ≡ cond c (b ∷ items_on i.on bs) (items_on i.on bs)
    by true e = ap (λ l. b ∷ l) e
    by false e = e

-- 3. What an item is by its place on its channel

-- the loads from this place on, as they are told
abbrev pub told_from : (ℕ → Load → List ℕ) → ℕ → List Load → List (List ℕ)
told_from bytes k [] = []
told_from bytes k (load ∷ loads) = bytes k load ∷ told_from bytes (k + 1) loads

at_map : {A B : Type 0} (f : A → B) (before after : List A) (x : A) → slice_get (map f (before ++ x ∷ after)) (length before) ≡ Some (f x)
at_map f [] after x = refl
at_map f (b ∷ bs) after x = at_map f bs after x

at_told : (bytes : ℕ → Load → List ℕ) (k : ℕ) (before after : List Load) (load : Load) →
    slice_get (told_from bytes k (before ++ load ∷ after)) (length before) ≡ Some (bytes (k + length before) load)
at_told bytes k [] after load = ap (λ m. Some (bytes m load)) (omega arith)
at_told bytes k (b ∷ bs) after load = at_told bytes (k + 1) bs after load ∙ ap (λ m. Some (bytes m load)) (omega arith)

loads_length : (items : List Item) → length (map (λ (item : Item). item.load) items) ≡ length items
loads_length [] = refl
loads_length (i ∷ is) = ap suc (loads_length is)

names_before : (number : Numbering) (on : Channel) (c : ℕ) (before rest : List Item) → Names number on c (before ++ rest) → Names number on c before
names_before number on c [] rest h = tt
names_before number on c (b ∷ bs) rest h = (h.0, names_before number on c bs rest h.1)

module _ {T : Type 0} (number : Numbering) (n : ℕ) (items : List Item) (xs : List (ItemOf T)) (x : ItemOf T) (is : IsFound number n xs items x)
    (names : Names number is.item.on x.channel items) (same : same_channel is.item.on is.item.on ≡ true) where
  as_many : length (on_channel x.channel is.first) ≡ length (items_on is.item.on is.before)
  as_many =
      counted_in x.channel is.first ∙ ap (count_on x.channel) is.keys
      ∙ sym (counted_names number is.item.on x.channel is.before
      (names_before number is.item.on x.channel is.before (is.item ∷ is.after) (subst (Names number is.item.on x.channel) is.ledger names)))

  its_channel : on_channel x.channel xs ≡ on_channel x.channel is.first ++ x ∷ on_channel x.channel is.last
  its_channel =
      ap (on_channel x.channel) is.flight ∙ filter-append (λ (y : ItemOf T). y.channel == x.channel) is.first (x ∷ is.last)
      ∙ ap (λ b. on_channel x.channel is.first ++ cond b (x ∷ on_channel x.channel is.last) (on_channel x.channel is.last)) (same_test x.channel)

  abbrev loads_of : List Item → List Load
  loads_of list = map (λ (item : Item). item.load) list

  its_loads : loads_on is.item.on items ≡ loads_of (items_on is.item.on is.before) ++ is.item.load ∷ loads_of (items_on is.item.on is.after)
  its_loads =
      ap (loads_on is.item.on) is.ledger
      ∙ ap loads_of (filter-append (λ (i : Item). same_channel is.item.on i.on) is.before (is.item ∷ is.after))
      ∙ ap (λ b. loads_of (items_on is.item.on is.before ++ cond b (is.item ∷ items_on is.item.on is.after) (items_on is.item.on is.after))) same
      ∙ map-append (λ (item : Item). item.load) (items_on is.item.on is.before) (is.item ∷ items_on is.item.on is.after)

  pub its_bytes : (g : ItemOf T → List ℕ) (bytes : ℕ → Load → List ℕ) → map g (on_channel x.channel xs) ≡ told_from bytes 0 (loads_on is.item.on items) →
      g x ≡ bytes (length (items_on is.item.on is.before)) is.item.load
  its_bytes g bytes e =
      let before : List Load = loads_of (items_on is.item.on is.before) in
      let many : length before ≡ length (items_on is.item.on is.before) = loads_length (items_on is.item.on is.before) in
      same_Some (g x) (bytes (length (items_on is.item.on is.before)) is.item.load)
      (sym (at_map g (on_channel x.channel is.first) (on_channel x.channel is.last) x)
      ∙ ap (λ l. slice_get (map g l) (length (on_channel x.channel is.first))) (sym its_channel)
      ∙ ap (λ l. slice_get l (length (on_channel x.channel is.first))) e
      ∙ ap (slice_get (told_from bytes 0 (loads_on is.item.on items))) (as_many ∙ sym many)
      ∙ ap (λ l. slice_get (told_from bytes 0 l) (length before)) its_loads
      ∙ at_told bytes 0 before (loads_of (items_on is.item.on is.after)) is.item.load
      ∙ ap (λ m. Some (bytes m is.item.load)) (none_more (length before) ∙ many))
    where
      none_more : (m : ℕ) → 0 + m ≡ m
      none_more m = omega arith
