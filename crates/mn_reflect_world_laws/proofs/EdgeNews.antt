-- What an edge says of its exports as a step changes them, export by export.
use Rattle.std.proofs.Common.{◌≡◌, ◌⊎◌, inl, inr, Bool, true, false, cond, List, [], ◌∷◌, ◌++◌, map, filter, find, Some, None, Option}
use Rattle.std.proofs.Common.{refl, sym, ◌∙◌, ap, subst}
use Rattle.std.specs.Prelude.{◌==◌, ◌&&◌, ◌||◌, not, if◌then◌else◌}
use Rattle.std.specs.List.{flat_map, list_any, AllByRecursion}
use Rattle.mn_base.specs.Ordered.{Ascends}
use Rattle.mn_base.proofs.Bools.{no, two_ways, and_left, and_right, same_numbers}
use Rattle.mn_base.proofs.Members.{In, in_front, in_rest, in_map, map_in, in_filter, filter_in, none_passes}
use Rattle.mn_prefix.specs.Prefix.{same_prefix}
use Rattle.mn_prefix.proofs.Tables.{same_exact}
use Rattle.mn_ledger.specs.World.{Export}
use Rattle.mn_ledger.specs.Bgp.{is_for, same_export}
use Rattle.mn_ledger.proofs.OneKind.{for_itself, export_itself}
use Rattle.mn_reflect_ledger_laws.specs.Words.{Key, Offer, Word, Announce, Withdraw, key_of, same_key, key_before, same_offer, in_order, change}
use Rattle.mn_reflect_ledger_laws.specs.Picks.{plain}
use Rattle.mn_reflect_ledger_laws.proofs.Mentions.{key_itself, same_keys, same_offers, order_in}
use Rattle.mn_reflect_ledger_laws.proofs.Holding.{none_some, find_in}
use Rattle.mn_reflect_world_laws.proofs.InOrder.{sift, order_up}
use Rattle.mn_reflect_world_laws.proofs.Changes.{no_change, flat_same_in}

abbrev pub key : Export → Key
key e = key_of (plain e)

-- 1. What is found by name

pub find_none : (k : Key) (xs : List Export) → ((x : Export) → In xs x → key x ≡ k → ⊥) → find (λ o. same_key k (key_of o)) (map plain xs) ≡ None
find_none k [] h = refl
find_none k (x ∷ xs) h = by (same_key k (key x)) refl (find_none k xs (λ y i. h y (inr i)))
  where
    by : (b : Bool) → same_key k (key x) ≡ b → find (λ o. same_key k (key_of o)) (map plain xs) ≡ None →
        cond b (Some (plain x)) (find (λ o. same_key k (key_of o)) (map plain xs)) ≡ None
    by true e more = absurd (h x (inl refl) (sym (same_keys k (key x) e)))
    by false e more = more

pub find_one : (k : Key) (xs : List Export) (x : Export) → In xs x → key x ≡ k → ((y : Export) → In xs y → key y ≡ k → y ≡ x) →
    find (λ o. same_key k (key_of o)) (map plain xs) ≡ Some (plain x)
find_one k [] x i e only = absurd i
find_one k (z ∷ zs) x i e only = by (same_key k (key z)) refl (λ j. find_one k zs x j e (λ y m. only y (inr m)))
  where
    by : (b : Bool) → same_key k (key z) ≡ b → (In zs x → find (λ o. same_key k (key_of o)) (map plain zs) ≡ Some (plain x)) →
        cond b (Some (plain z)) (find (λ o. same_key k (key_of o)) (map plain zs)) ≡ Some (plain x)
    by true q more = ap (λ y. Some (plain y)) (only z (inl refl) (sym (same_keys k (key z) q)))
    by false q more = more (elim i [ inl g ↦ absurd (no (sym q ∙ ap (λ y. same_key k (key y)) g ∙ ap (same_key k) e ∙ key_itself k)) | inr j ↦ j ])

some_found : (k : Key) (xs : List Export) (o : Offer) → find (λ p. same_key k (key_of p)) (map plain xs) ≡ Some o → (x : Export) × In xs x × (plain x ≡ o)
some_found k xs o h = in_map plain xs o (find_in k (map plain xs) o h)

named_found : (k : Key) (xs : List Export) (o : Offer) → find (λ p. same_key k (key_of p)) (map plain xs) ≡ Some o → key_of o ≡ k
named_found k [] o h = absurd (none_some h)
named_found k (x ∷ xs) o h = by (same_key k (key x)) refl h (named_found k xs o)
  where
    by : (b : Bool) → same_key k (key x) ≡ b → cond b (Some (plain x)) (find (λ p. same_key k (key_of p)) (map plain xs)) ≡ Some o →
        (find (λ p. same_key k (key_of p)) (map plain xs) ≡ Some o → key_of o ≡ k) → key_of o ≡ k
    by true e q more = ap key_of (sym (ap (λ z. elim z [ None ↦ o | Some v ↦ v ]) q)) ∙ sym (same_keys k (key x) e)
    by false e q more = more q

for_key : (x y : Export) → is_for x.vrf x.prefix y ≡ true → key x ≡ key y
for_key x y h =
    ap (λ v. record { vrf = v; prefix = x.prefix }) (same_numbers x.vrf y.vrf (and_left (x.vrf == y.vrf) (same_prefix x.prefix y.prefix) h))
    ∙ ap (λ p. record { vrf = y.vrf; prefix = p }) (same_exact x.prefix y.prefix (and_right (x.vrf == y.vrf) (same_prefix x.prefix y.prefix) h))

key_for : (x y : Export) → key x ≡ key y → is_for x.vrf x.prefix y ≡ true
key_for x y h = subst (λ (k : Key). ((x.vrf == k.vrf) && same_prefix x.prefix k.prefix) ≡ true) h (for_itself x.vrf x.prefix)

one_of : (p : Export → Bool) (xs : List Export) → list_any p xs ≡ true → (x : Export) × In xs x × (p x ≡ true)
one_of p [] h = absurd (no h)
one_of p (x ∷ xs) h = by (p x) refl h (one_of p xs)
  where
    by : (b : Bool) → p x ≡ b → (b || list_any p xs) ≡ true → (list_any p xs ≡ true → (y : Export) × In xs y × (p y ≡ true)) →
        (y : Export) × In (x ∷ xs) y × (p y ≡ true)
    by true e g more = (x, inl refl, e)
    by false e g more = let m = more g in (m.0, inr m.1, m.2)

-- 2. Two lists of exports, of which one comes of the other

pub record AreExports (xs ys : List Export) : Type 0 where
  pub old_up : Ascends key_before (map key xs)
  pub new_up : Ascends key_before (map key ys)
  pub old_one : (x y : Export) → In xs x → In xs y → key x ≡ key y → x ≡ y
  pub new_one : (x y : Export) → In ys x → In ys y → key x ≡ key y → x ≡ y
  pub kept : (y x : Export) → In ys y → In xs x → same_export y x ≡ true → y ≡ x

-- those that are new or changed, and those that went
abbrev pub anew : List Export → Export → Bool
anew xs y = not (list_any (same_export y) xs)

abbrev pub gone : List Export → Export → Bool
gone ys x = not (list_any (is_for x.vrf x.prefix) ys)

not_off : (b : Bool) → not b ≡ false → b ≡ true
not_off true h = refl
not_off false h = absurd (no (sym h))

not_on : (b : Bool) → not b ≡ true → b ≡ false
not_on true h = absurd (no h)
not_on false h = refl

map_nothing : {A B : Type 0} (f : A → B) (xs : List A) → map f xs ≡ [] → xs ≡ []
map_nothing f [] h = refl
map_nothing f (x ∷ xs) h = absurd (no (ap (λ zs. elim zs [ [] ↦ true | z ∷ more ↦ false ]) h))

filtered_out : (p : Export → Bool) (xs : List Export) → filter p xs ≡ [] → (x : Export) → In xs x → p x ≡ false
filtered_out p xs h x i = elim (two_ways (p x)) [ inr e ↦ e | inl e ↦ absurd (subst (λ zs. In zs x) h (filter_in p xs x i e)) ]

pub ascends_keys : (p : Export → Bool) (xs : List Export) → Ascends key_before (map key xs) → Ascends key_before (map key (filter p xs))
ascends_keys p [] up = tt
ascends_keys p (x ∷ xs) up = by (p x) (ascends_keys p xs up.1)
  where
    all_some : (ys : List Export) → AllByRecursion (λ k. key_before (key x) k ≡ true) (map key ys) →
        AllByRecursion (λ k. key_before (key x) k ≡ true) (map key (filter p ys))
    all_some [] h = tt
    all_some (y ∷ ys) h = one (p y) (all_some ys h.1)
      where
        one : (b : Bool) → AllByRecursion (λ k. key_before (key x) k ≡ true) (map key (filter p ys)) →
            AllByRecursion (λ k. key_before (key x) k ≡ true) (map key (cond b (y ∷ filter p ys) (filter p ys)))
        one true more = (h.0, more)
        one false more = more

    by : (b : Bool) → Ascends key_before (map key (filter p xs)) → Ascends key_before (map key (cond b (x ∷ filter p xs) (filter p xs)))
    by true more = (all_some xs up.0, more)
    by false more = more

pub flat_map_keys : {B : Type 0} (f : Key → List B) (xs : List Export) → flat_map f (map key xs) ≡ flat_map (λ x. f (key x)) xs
flat_map_keys f [] = refl
flat_map_keys f (x ∷ xs) = ap (λ zs. f (key x) ++ zs) (flat_map_keys f xs)

module _ {B : Type 0} (xs ys : List Export) (are : AreExports xs ys) (said : List Word → List B) (nothing : said [] ≡ []) where
  abbrev pub old_of : Key → Option Offer
  old_of k = find (λ o. same_key k (key_of o)) (map plain xs)

  abbrev pub new_of : Key → Option Offer
  new_of k = find (λ o. same_key k (key_of o)) (map plain ys)

  abbrev pub told : Key → List B
  told k = said (change k (old_of k) (new_of k))

  abbrev all_keys : List Key
  all_keys = map key_of (map plain xs) ++ map key_of (map plain ys)

  old_key : (x : Export) → In xs x → In all_keys (key x)
  old_key x i = in_front (map key_of (map plain xs)) (map key_of (map plain ys)) (key x) (map_in key_of (map plain xs) (plain x) (map_in plain xs x i))

  new_key : (y : Export) → In ys y → In all_keys (key y)
  new_key y i = in_rest (map key_of (map plain xs)) (map key_of (map plain ys)) (key y) (map_in key_of (map plain ys) (plain y) (map_in plain ys y i))

  same_told : (k : Key) → old_of k ≡ new_of k → told k ≡ []
  same_told k e = ap (λ o. said (change k o (new_of k))) e ∙ ap said (no_change k (new_of k)) ∙ nothing

  -- where nothing goes, what is new or changed is announced
  module _ (none_goes : (x : Export) → In xs x → gone ys x ≡ false) where
    comes_key : (k : Key) → (told k ≡ []) ⊎ In (map key (filter (anew xs) ys)) k
    comes_key k = by (new_of k) refl
      where
        by : (o : Option Offer) → new_of k ≡ o → (told k ≡ []) ⊎ In (map key (filter (anew xs) ys)) k
        by None e = inl (same_told k (old_none (old_of k) refl ∙ sym e))
          where
            old_none : (q : Option Offer) → old_of k ≡ q → old_of k ≡ None
            old_none None f = f
            old_none (Some o) f =
                let x = some_found k xs o f in
                let y = one_of (is_for x.0.vrf x.0.prefix) ys (not_off _ (none_goes x.0 x.1)) in
                let named : key y.0 ≡ k = sym (for_key x.0 y.0 y.2) ∙ ap key_of x.2 ∙ named_found k xs o f in
                absurd (none_some (sym e ∙ find_one k ys y.0 y.1 named (λ z i g. are.new_one z y.0 i y.1 (g ∙ sym named))))
        by (Some o) e =
            let y = some_found k ys o e in
            let named : key y.0 ≡ k = ap key_of y.2 ∙ named_found k ys o e in
            elim (two_ways (anew xs y.0)) [
              | inl g ↦ inr (subst (In (map key (filter (anew xs) ys))) named (map_in key (filter (anew xs) ys) y.0 (filter_in (anew xs) ys y.0 y.1 g)))
              | inr g ↦
                  (let x = one_of (same_export y.0) xs (not_off _ g) in
                  let same : y.0 ≡ x.0 = are.kept y.0 x.0 y.1 x.1 x.2 in
                  let also : key x.0 ≡ k = ap key (sym same) ∙ named in
                  inl (same_told k (find_one k xs x.0 x.1 also (λ z i h. are.old_one z x.0 i x.1 (h ∙ sym also)) ∙ ap (λ z. Some (plain z)) (sym same)
                  ∙ sym (find_one k ys y.0 y.1 named (λ z i h. are.new_one z y.0 i y.1 (h ∙ sym named))))))
            ]

    comes_one : (y : Export) → In (filter (anew xs) ys) y → told (key y) ≡ said (Announce (plain y) ∷ [])
    comes_one y i =
        let f = in_filter (anew xs) ys y i in
        ap (λ o. said (change (key y) (old_of (key y)) o)) (find_one (key y) ys y f.0 refl (λ z j h. are.new_one z y j f.0 h))
        ∙ ap said (by (old_of (key y)) refl f.1)
      where
        by : (o : Option Offer) → old_of (key y) ≡ o → anew xs y ≡ true → change (key y) o (Some (plain y)) ≡ Announce (plain y) ∷ []
        by None e g = refl
        by (Some o) e g = ap (λ b. if b then [] else Announce (plain y) ∷ []) (differs (same_offer o (plain y)) refl)
          where
            differs : (b : Bool) → same_offer o (plain y) ≡ b → same_offer o (plain y) ≡ false
            differs false h = h
            differs true h =
                let x = some_found (key y) xs o e in
                let same : x.0 ≡ y = ap (λ (z : Offer). z.export) (x.2 ∙ same_offers o (plain y) h) in
                absurd (no (sym (none_passes (same_export y) xs x.0 (not_on _ g) x.1) ∙ ap (same_export y) same ∙ export_itself y))

    pub comes_told : flat_map told (in_order all_keys) ≡ flat_map (λ y. said (Announce (plain y) ∷ [])) (filter (anew xs) ys)
    comes_told =
        sift told (in_order all_keys) (map key (filter (anew xs) ys)) (order_up all_keys) (ascends_keys (anew xs) ys are.new_up) (λ k i. comes_key k)
        (λ k i. inr (let m = in_map key (filter (anew xs) ys) k i in
        order_in all_keys k (subst (In all_keys) m.2 (new_key m.0 (in_filter (anew xs) ys m.0 m.1).0))))
        ∙ flat_map_keys told (filter (anew xs) ys)
        ∙ flat_same_in (λ y. told (key y)) (λ y. said (Announce (plain y) ∷ [])) (filter (anew xs) ys) comes_one

  -- where nothing comes, what went is withdrawn
  module _ (none_comes : (y : Export) → In ys y → anew xs y ≡ false) where
    goes_key : (k : Key) → (told k ≡ []) ⊎ In (map key (filter (gone ys) xs)) k
    goes_key k = by (old_of k) refl
      where
        was_there : (y : Export) → In ys y → (x : Export) × In xs x × (y ≡ x)
        was_there y i = let x = one_of (same_export y) xs (not_off _ (none_comes y i)) in (x.0, x.1, are.kept y x.0 i x.1 x.2)

        by : (o : Option Offer) → old_of k ≡ o → (told k ≡ []) ⊎ In (map key (filter (gone ys) xs)) k
        by None e = inl (same_told k (e ∙ sym (new_none (new_of k) refl)))
          where
            new_none : (q : Option Offer) → new_of k ≡ q → new_of k ≡ None
            new_none None f = f
            new_none (Some o) f =
                let y = some_found k ys o f in
                let x = was_there y.0 y.1 in
                let named : key x.0 ≡ k = ap key (sym x.2) ∙ ap key_of y.2 ∙ named_found k ys o f in
                absurd (none_some (sym e ∙ find_one k xs x.0 x.1 named (λ z i g. are.old_one z x.0 i x.1 (g ∙ sym named))))
        by (Some o) e =
            let x = some_found k xs o e in
            let named : key x.0 ≡ k = ap key_of x.2 ∙ named_found k xs o e in
            elim (two_ways (gone ys x.0)) [
              | inl g ↦ inr (subst (In (map key (filter (gone ys) xs))) named (map_in key (filter (gone ys) xs) x.0 (filter_in (gone ys) xs x.0 x.1 g)))
              | inr g ↦
                  (let y = one_of (is_for x.0.vrf x.0.prefix) ys (not_off _ g) in
                  let v = was_there y.0 y.1 in
                  let also : key y.0 ≡ k = sym (for_key x.0 y.0 y.2) ∙ named in
                  let same : v.0 ≡ x.0 = are.old_one v.0 x.0 v.1 x.1 (ap key (sym v.2) ∙ also ∙ sym named) in
                  inl (same_told k (find_one k xs x.0 x.1 named (λ z i h. are.old_one z x.0 i x.1 (h ∙ sym named))
                  ∙ ap (λ z. Some (plain z)) (sym (v.2 ∙ same))
                  ∙ sym (find_one k ys y.0 y.1 also (λ z i h. are.new_one z y.0 i y.1 (h ∙ sym also))))))
            ]

    goes_one : (x : Export) → In (filter (gone ys) xs) x → told (key x) ≡ said (Withdraw (key x) ∷ [])
    goes_one x i =
        let f = in_filter (gone ys) xs x i in
        ap (λ o. said (change (key x) o (new_of (key x)))) (find_one (key x) xs x f.0 refl (λ z j h. are.old_one z x j f.0 h))
        ∙ ap (λ o. said (change (key x) (Some (plain x)) o))
        (find_none (key x) ys (λ y j h. no (sym (none_passes (is_for x.vrf x.prefix) ys y (not_on _ f.1) j) ∙ key_for x y (sym h))))

    pub goes_told : flat_map told (in_order all_keys) ≡ flat_map (λ x. said (Withdraw (key x) ∷ [])) (filter (gone ys) xs)
    goes_told =
        sift told (in_order all_keys) (map key (filter (gone ys) xs)) (order_up all_keys) (ascends_keys (gone ys) xs are.old_up) (λ k i. goes_key k)
        (λ k i. inr (let m = in_map key (filter (gone ys) xs) k i in
        order_in all_keys k (subst (In all_keys) m.2 (old_key m.0 (in_filter (gone ys) xs m.0 m.1).0))))
        ∙ flat_map_keys told (filter (gone ys) xs)
        ∙ flat_same_in (λ x. told (key x)) (λ x. said (Withdraw (key x) ∷ [])) (filter (gone ys) xs) goes_one
