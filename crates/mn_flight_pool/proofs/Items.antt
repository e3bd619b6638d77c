-- The items in nodes, and those of one channel.
use Rattle.std.proofs.Common.{◌≡◌, ◌<◌, ◌≤◌, ℕ, zero, suc, Bool, true, false, cond, List, [], ◌∷◌, ◌++◌, length, Option, Some, None, IsSome, inl, inr, refl}
use Rattle.std.proofs.Common.{sym, ap, ◌∙◌, subst, arith}
use Rattle.std.specs.Prelude.{◌==◌, not, filter, find, slice_get}
use Rattle.std.specs.List.{AllByRecursion, AllPairs, cons_option}
use Rattle.std.proofs.lemmas.Bool.Decides.{nat_tests}
use Rattle.std.proofs.lemmas.List.Filters.{length-filter_both}
use Rattle.std.proofs.lemmas.Option.{same_Some}
use Rattle.mn_flight.specs.declared.Item.{Item}
use Rattle.mn_flight.specs.Flying.{IsFlight, on_channel}
use Rattle.mn_flight.proofs.Members as members
use Rattle.mn_flight_pool.specs.Rings.{IsIn, item_at}
use Rattle.mn_flight_pool.specs.Pool.{is_on, items_in, nodes_on}
use Rattle.mn_flight_pool.specs.Nodes.{Node}

-- 1. Places
pub place_cut : (n : ℕ) (xs : List ℕ) → n < length xs → (us : List ℕ) × (p : ℕ) × (vs : List ℕ) × (xs ≡ us ++ p ∷ vs) × (length us ≡ n)
place_cut n [] h = absurd (omega (arith, h))
place_cut zero (x ∷ xs) h = ([], x, xs, refl, refl)
place_cut (suc n) (x ∷ xs) h = let on = place_cut n xs (omega (arith, h)) in (x ∷ on.0, on.1, on.2, ap (λ l. x ∷ l) on.3, ap suc on.4)

pub at_cut : (us : List ℕ) (p : ℕ) (vs : List ℕ) → slice_get (us ++ p ∷ vs) (length us) ≡ Some p
at_cut [] p vs = refl
at_cut (u ∷ us) p vs = at_cut us p vs

pub fewer_kept : (test : ℕ → Bool) (xs : List ℕ) → length (filter test xs) ≤ length xs
fewer_kept test xs = omega (arith, length-filter_both test (λ x. not (test x)) (λ x. refl) xs)

module _ {T : Type 0} where
  module _ (cells : List (Node T)) where
    abbrev Held : List ℕ → Type 0
    Held ps = AllByRecursion (λ p. IsSome (item_at cells p)) ps

    -- 2. The items of a channel's nodes are the channel's
    pub items_on : (c : ℕ) (ps : List ℕ) → items_in cells (nodes_on cells c ps) ≡ on_channel c (items_in cells ps)
    items_on c [] = refl
    items_on c (p ∷ ps) = by (item_at cells p) refl (items_on c ps)
      where
        by : (o : Option (Item T)) → item_at cells p ≡ o → items_in cells (nodes_on cells c ps) ≡ on_channel c (items_in cells ps)
            → items_in cells (cond (is_on c o) (p ∷ nodes_on cells c ps) (nodes_on cells c ps)) ≡ on_channel c (cons_option o (items_in cells ps))
        by None e rest = rest
        by (Some x) e rest = split (x.channel == c)
          where
            split : (b : Bool) →
                items_in cells (cond b (p ∷ nodes_on cells c ps) (nodes_on cells c ps)) ≡ cond b (x ∷ on_channel c (items_in cells ps))
                (on_channel c (items_in cells ps))
            split true = rw e (ap (λ l. x ∷ l) rest)
            split false = rest

    pub items_length : (ps : List ℕ) → Held ps → length (items_in cells ps) ≡ length ps
    items_length [] h = refl
    items_length (p ∷ ps) h = by (item_at cells p) h.0 (items_length ps h.1)
      where
        by : (o : Option (Item T)) → IsSome o → length (items_in cells ps) ≡ length ps → length (cons_option o (items_in cells ps)) ≡ suc (length ps)
        by None s rest = cc
        by (Some x) s rest = ap suc rest

    pub item_placed : (ps : List ℕ) (n : ℕ) (p : ℕ) → Held ps → slice_get ps n ≡ Some p → slice_get (items_in cells ps) n ≡ item_at cells p
    item_placed [] n p h e = cc
    item_placed (q ∷ ps) n p h e = by (item_at cells q) refl h.0 n e (λ m. item_placed ps m p h.1)
      where
        by : (o : Option (Item T)) → item_at cells q ≡ o → IsSome o → (m : ℕ) → slice_get (q ∷ ps) m ≡ Some p →
            ((k : ℕ) → slice_get ps k ≡ Some p → slice_get (items_in cells ps) k ≡ item_at cells p) →
            slice_get (cons_option o (items_in cells ps)) m ≡ item_at cells p
        by None f s m g rest = cc
        by (Some x) f s zero g rest = sym f ∙ ap (item_at cells) (same_Some q p g)
        by (Some x) f s (suc m) g rest = rest m g

    pub held_on : (c : ℕ) (ps : List ℕ) → Held ps → Held (nodes_on cells c ps)
    held_on c [] h = tt
    held_on c (p ∷ ps) h = by (is_on c (item_at cells p)) (held_on c ps h.1)
      where
        by : (b : Bool) → Held (nodes_on cells c ps) → Held (cond b (p ∷ nodes_on cells c ps) (nodes_on cells c ps))
        by true rest = (h.0, rest)
        by false rest = rest

    -- 3. Members
    pub item_member : (ps : List ℕ) (q : ℕ) (y : Item T) → IsIn q ps → item_at cells q ≡ Some y → members.IsIn y (items_in cells ps)
    item_member [] q y i e = absurd i
    item_member (p ∷ ps) q y i e = by (item_at cells p) refl i (item_member ps q y)
      where
        by : (o : Option (Item T)) → item_at cells p ≡ o → IsIn q (p ∷ ps) →
            (IsIn q ps → item_at cells q ≡ Some y → members.IsIn y (items_in cells ps)) → members.IsIn y (cons_option o (items_in cells ps))
        by None f (inl s) rest = absurd (none (item_at cells q) (ap (item_at cells) s ∙ f) e)
          where
            none : (o : Option (Item T)) → o ≡ None → o ≡ Some y → ⊥
            none o g k = cc
        by (Some x) f (inl s) rest = inl (same_Some y x (sym e ∙ ap (item_at cells) s ∙ f))
        by None f (inr j) rest = rest j e
        by (Some x) f (inr j) rest = inr (rest j e)

    pub member_node : (ps : List ℕ) (y : Item T) → members.IsIn y (items_in cells ps) → (q : ℕ) × IsIn q ps × (item_at cells q ≡ Some y)
    member_node [] y i = absurd i
    member_node (p ∷ ps) y i = by (item_at cells p) refl i (member_node ps y)
      where
        by : (o : Option (Item T)) → item_at cells p ≡ o → members.IsIn y (cons_option o (items_in cells ps)) →
            (members.IsIn y (items_in cells ps) → (q : ℕ) × IsIn q ps × (item_at cells q ≡ Some y)) →
            (q : ℕ) × IsIn q (p ∷ ps) × (item_at cells q ≡ Some y)
        by None f j rest = let on = rest j in (on.0, inr on.1, on.2)
        by (Some x) f (inl s) rest = (p, inl refl, f ∙ ap (λ z. Some z) (sym s))
        by (Some x) f (inr j) rest = let on = rest j in (on.0, inr on.1, on.2)

  -- 4. Numbers

  pub one_item : (xs : List (Item T)) → AllPairs (λ (a : Item T) (b : Item T). a.number < b.number) xs →
      (a b : Item T) → members.IsIn a xs → members.IsIn b xs → a.number ≡ b.number → a ≡ b
  one_item [] up a b i j e = absurd i
  one_item (x ∷ xs) up a b i j e = elim i [
    | inl p ↦ elim j [
      | inl q ↦ p ∙ sym q
      | inr l ↦ absurd (omega (arith, members.first_below x xs up b l, e, ap (λ (z : Item T). z.number) p))
    ]
    | inr k ↦ elim j [
      | inl q ↦ absurd (omega (arith, members.first_below x xs up a k, e, ap (λ (z : Item T). z.number) q))
      | inr l ↦ one_item xs (members.rest_ascends x xs up) a b k l e
    ]
  ]

  pub find_none : (test : Item T → Bool) (xs : List (Item T)) → ((y : Item T) → members.IsIn y xs → test y ≡ false) → find test xs ≡ None
  find_none test [] h = refl
  find_none test (x ∷ xs) h = rw (h x (inl refl)) (find_none test xs (λ y i. h y (inr i)))

  -- 5. A channel that isn't there has no item
  pub none_on : (channels c : ℕ) (xs : List (Item T)) → IsFlight channels xs → channels ≤ c → length (on_channel c xs) ≡ 0
  none_on channels c xs flight h = ap length (members.filter_none (λ (item : Item T). item.channel == c) xs (λ y i.
      let at = members.contains_of_in xs y i in
      let below : y.channel < channels = subst (λ (z : Item T). z.channel < channels) at.2 (flight.on_channels at.0 y at.1) in
      grind (arith, nat_tests, below, h)))
