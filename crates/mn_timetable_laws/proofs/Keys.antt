-- What leaves a flight and what is put into it, by keys.
use Rattle.std.proofs.Common.{ℕ, zero, suc, ◌≡◌, ◌+◌, ◌<◌, Bool, true, false, not, cond, List, [], ◌∷◌, ◌++◌, length, refl, arith, sym, ap, ◌∙◌, subst}
use Rattle.std.proofs.Common.{Option, Some, None}
use Rattle.std.specs.Prelude.{◌==◌, filter, slice_get, ⊤}
use Rattle.std.proofs.lemmas.Option.{same_Some}
use Rattle.mn_flight.specs.declared.Item.{Item as ItemOf}
use Rattle.mn_flight.specs.Flying.{on_channel, off_channel}
use Rattle.mn_flight.proofs.Members.{filter_all, rest_ascends, first_below}
use Rattle.mn_flight.proofs.OnChannels.{Ascends, others, same_gone, less_stays, more_stays, on_it}
use Rattle.mn_topo.specs.Network.{Network}
use Rattle.mn_ledger.specs.Items.{Channel, Load, Item, same_channel, without, numbered}
use Rattle.mn_timetable_laws.specs.Keys.{key_of, keys_in, Numbering, with_key, keys_on, key_without, keys_by, is_number, Names, Passes, Agrees}

-- 1. A flight's side

module _ {T : Type 0} where
  -- to take the item at a place of a channel is to take that place of its keys
  pub key_taken : (c : ℕ) (xs : List (ItemOf T)) (n : ℕ) (x : ItemOf T) → Ascends xs → slice_get (on_channel c xs) n ≡ Some x →
      keys_in (filter (others x.number) xs) ≡ key_without c n (keys_in xs)
  key_taken c [] n x up h = refl
  key_taken c (y ∷ ys) n x up h = by (y.channel == c) refl (λ i. key_taken c ys i x (rest_ascends y ys up)) n h
    where
      by : (b : Bool) → (y.channel == c) ≡ b →
          ((i : ℕ) → slice_get (on_channel c ys) i ≡ Some x → keys_in (filter (others x.number) ys) ≡ key_without c i (keys_in ys)) →
          (n : ℕ) → slice_get (cond b (y ∷ on_channel c ys) (on_channel c ys)) n ≡ Some x →
          keys_in (filter (others x.number) (y ∷ ys)) ≡ key_without c n (keys_in (y ∷ ys))
      by true e hyp zero g =
          let same : y ≡ x = same_Some y x g in
          let gone : others x.number y ≡ false = subst (λ (z : ItemOf T). others z.number y ≡ false) same (same_gone y.number) in
          let all : filter (others x.number) ys ≡ ys =
          filter_all (others x.number) ys
          (λ z i. more_stays z.number x.number (subst (λ (k : ItemOf T). k.number < z.number) same (first_below y ys up z i))) in
          rw (gone, e, all) refl
      by true e hyp (suc n) g =
          let stays : others x.number y ≡ true = less_stays y.number x.number (first_below y ys up x (on_it c ys n x g)) in
          rw (stays, e) (ap (λ l. key_of y ∷ l) (hyp n g))
      by false e hyp zero g =
          let stays : others x.number y ≡ true = less_stays y.number x.number (first_below y ys up x (on_it c ys zero x g)) in
          rw (stays, e) (ap (λ l. key_of y ∷ l) (hyp zero g))
      by false e hyp (suc n) g =
          let stays : others x.number y ≡ true = less_stays y.number x.number (first_below y ys up x (on_it c ys (suc n) x g)) in
          rw (stays, e) (ap (λ l. key_of y ∷ l) (hyp (suc n) g))

  -- to drop a channel is to drop its keys
  pub keys_dropped : (c : ℕ) (xs : List (ItemOf T)) → keys_in (off_channel c xs) ≡ keys_by (λ d. not (d == c)) (keys_in xs)
  keys_dropped c [] = refl
  keys_dropped c (x ∷ xs) = by (not (x.channel == c)) (keys_dropped c xs)
    where
      by : (b : Bool) → keys_in (off_channel c xs) ≡ keys_by (λ d. not (d == c)) (keys_in xs) →
          keys_in (cond b (x ∷ off_channel c xs) (off_channel c xs)) ≡ cond b (key_of x ∷ keys_by (λ d. not (d == c)) (keys_in xs))
          (keys_by (λ d. not (d == c)) (keys_in xs))
      by true e = ap (λ l. key_of x ∷ l) e
      by false e = e

  pub keys_put : (xs ys : List (ItemOf T)) → keys_in (xs ++ ys) ≡ keys_in xs ++ keys_in ys
  keys_put [] ys = refl
  keys_put (x ∷ xs) ys = ap (λ l. key_of x ∷ l) (keys_put xs ys)

-- 2. The ledger's side

-- without a place of one of the flight's channels
pub keys_taken : (number : Numbering) (on : Channel) (c n : ℕ) (xs : List Item) → Names number on c xs →
    keys_on number (without on n xs) ≡ key_without c n (keys_on number xs)
keys_taken number on c n [] h = refl
keys_taken number on c n (x ∷ xs) h = by (number x.on) refl n h.0 (λ i. keys_taken number on c i xs h.1)
  where
    found : (d : ℕ) (b : Bool) → (d == c) ≡ b → same_channel on x.on ≡ b → number x.on ≡ Some d → (n : ℕ) →
        ((i : ℕ) → keys_on number (without on i xs) ≡ key_without c i (keys_on number xs)) →
        keys_on number (without on n (x ∷ xs)) ≡ key_without c n (with_key (Some d) x (keys_on number xs))
    found d true e q o zero hyp = rw (q, e) refl
    found d true e q o (suc n) hyp = rw (q, e, o) (ap (λ l. with_key (Some d) x l) (hyp n))
    found d false e q o zero hyp = rw (q, e, o) (ap (λ l. with_key (Some d) x l) (hyp zero))
    found d false e q o (suc n) hyp = rw (q, e, o) (ap (λ l. with_key (Some d) x l) (hyp (suc n)))

    by : (o : Option ℕ) → number x.on ≡ o → (n : ℕ) → same_channel on x.on ≡ is_number c o →
        ((i : ℕ) → keys_on number (without on i xs) ≡ key_without c i (keys_on number xs)) →
        keys_on number (without on n (x ∷ xs)) ≡ key_without c n (with_key o x (keys_on number xs))
    by None o zero q hyp = rw (q, o) (hyp zero)
    by None o (suc n) q hyp = rw (q, o) (hyp (suc n))
    by (Some d) o n q hyp = found d (d == c) refl q o n hyp

-- none of these items is of the flight where it is on the channel
abbrev pub Strange : Numbering → Channel → List Item → Type 0
Strange number on [] = ⊤
Strange number on (x ∷ xs) = (same_channel on x.on ≡ true → number x.on ≡ None) × Strange number on xs

-- without a place of a channel that isn't the flight's
pub keys_untaken : (number : Numbering) (on : Channel) (n : ℕ) (xs : List Item) → Strange number on xs → keys_on number (without on n xs) ≡ keys_on number xs
keys_untaken number on n [] h = refl
keys_untaken number on n (x ∷ xs) h = by (same_channel on x.on) h.0 n (λ i. keys_untaken number on i xs h.1)
  where
    by : (b : Bool) → (b ≡ true → number x.on ≡ None) → (n : ℕ) → ((i : ℕ) → keys_on number (without on i xs) ≡ keys_on number xs) →
        keys_on number
        (elim n as (λ _. List Item) [ zero ↦ cond b xs (x ∷ without on zero xs) | suc i ↦ x ∷ cond b (without on i xs) (without on (suc i) xs) ]) ≡
        with_key (number x.on) x (keys_on number xs)
    by true g zero hyp = rw (g refl) refl
    by true g (suc n) hyp = ap (λ l. with_key (number x.on) x l) (hyp n)
    by false g zero hyp = ap (λ l. with_key (number x.on) x l) (hyp zero)
    by false g (suc n) hyp = ap (λ l. with_key (number x.on) x l) (hyp (suc n))

-- those on some channels
pub keys_left : (number : Numbering) (goes : Channel → Bool) (test : ℕ → Bool) (xs : List Item) → Agrees number goes test xs →
    keys_on number (filter (λ item. goes item.on) xs) ≡ keys_by test (keys_on number xs)
keys_left number goes test [] h = refl
keys_left number goes test (x ∷ xs) h = by (goes x.on) (number x.on) refl h.0 (keys_left number goes test xs h.1)
  where
    by : (b : Bool) (o : Option ℕ) → number x.on ≡ o → Passes test b o → keys_on number (filter (λ item. goes item.on) xs) ≡ keys_by test (keys_on number xs) →
        keys_on number (cond b (x ∷ filter (λ item. goes item.on) xs) (filter (λ item. goes item.on) xs)) ≡ keys_by test (with_key o x (keys_on number xs))
    by true None o p e = rw o e
    by false None o p e = e
    by true (Some c) o p e = rw (o, sym p) (ap (λ l. with_key (Some c) x l) e)
    by false (Some c) o p e = rw (sym p) e

pub keys_more : (number : Numbering) (xs ys : List Item) → keys_on number (xs ++ ys) ≡ keys_on number xs ++ keys_on number ys
keys_more number [] ys = refl
keys_more number (x ∷ xs) ys = by (number x.on) (keys_more number xs ys)
  where
    by : (o : Option ℕ) → keys_on number (xs ++ ys) ≡ keys_on number xs ++ keys_on number ys →
        with_key o x (keys_on number (xs ++ ys)) ≡ with_key o x (keys_on number xs) ++ keys_on number ys
    by None e = e
    by (Some c) e = ap (λ l. with_key (Some c) x l) e

pub numbered-append : (t : Network) (tick n : ℕ) (xs ys : List (Channel × Load)) →
    numbered t tick n (xs ++ ys) ≡ numbered t tick n xs ++ numbered t tick (n + length xs) ys
numbered-append t tick n [] ys = ap (λ m. numbered t tick m ys) (omega arith)
numbered-append t tick n (x ∷ xs) ys =
    ap (λ l. numbered t tick n (x ∷ []) ++ l)
    (numbered-append t tick (n + 1) xs ys ∙ ap (λ m. numbered t tick (n + 1) xs ++ numbered t tick m ys) (omega arith))

-- no channel of these is the flight's
abbrev pub NoneOf : Numbering → List (Channel × Load) → Type 0
NoneOf number [] = ⊤
NoneOf number (x ∷ xs) = (number x.0 ≡ None) × NoneOf number xs

pub none_made : (number : Numbering) (t : Network) (tick n : ℕ) (xs : List (Channel × Load)) → NoneOf number xs → keys_on number (numbered t tick n xs) ≡ []
none_made number t tick n [] h = refl
none_made number t tick n (x ∷ xs) h = rw h.0 (none_made number t tick (n + 1) xs h.1)
