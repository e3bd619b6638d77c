-- The last mention of a route, once changes are sent: it is what is offered then.
use Rattle.std.proofs.Common.{ℕ, ◌≡◌, ◌⊎◌, inl, inr, Bool, true, false, List, [], ◌∷◌, ◌++◌, Some, None, Option}
use Rattle.std.proofs.Common.{refl, sym, ◌∙◌, ap, subst}
use Rattle.std.specs.Prelude.{◌==◌, ◌&&◌, if◌then◌else◌}
use Rattle.std.specs.List.{flat_map}
use Rattle.mn_base.proofs.Bools.{no, two_ways, and_left, and_right, and_on, same_numbers, same_test}
use Rattle.mn_base.proofs.Members.{In}
use Rattle.mn_prefix.specs.Prefix.{AddressBlock, same_prefix}
use Rattle.mn_prefix.proofs.Tables.{same_exact}
use Rattle.mn_ledger.specs.Exports.{same_targets}
use Rattle.mn_reflect_ledger_laws.specs.Words.{Key, Offer, Word, Open, KeepAlive, Announce, Withdraw, key_of, same_key, key_before, same_offer, mentioned}
use Rattle.mn_reflect_ledger_laws.specs.Words.{last_mention, keys_in, placed, in_order, change}

-- 1. Tests that tell

pub key_itself : (key : Key) → same_key key key ≡ true
key_itself key = and_on (key.vrf == key.vrf) (same_prefix key.prefix key.prefix) (same_test key.vrf)
    (and_on (key.prefix.address == key.prefix.address) (key.prefix.length == key.prefix.length) (same_test key.prefix.address) (same_test key.prefix.length))

pub same_keys : (key other : Key) → same_key key other ≡ true → key ≡ other
same_keys key other h =
    ap (λ v. record { vrf = v; prefix = key.prefix }) (same_numbers key.vrf other.vrf (and_left (key.vrf == other.vrf) (same_prefix key.prefix other.prefix) h))
    ∙ ap (λ p. record { vrf = other.vrf; prefix = p }) (same_exact key.prefix other.prefix (and_right (key.vrf == other.vrf)
    (same_prefix key.prefix other.prefix) h))

same_lists : (xs ys : List ℕ) → same_targets xs ys ≡ true → xs ≡ ys
same_lists [] [] h = refl
same_lists [] (y ∷ ys) h = absurd (no h)
same_lists (x ∷ xs) [] h = absurd (no h)
same_lists (x ∷ xs) (y ∷ ys) h =
    ap (λ z. z ∷ xs) (same_numbers x y (and_left (x == y) (same_targets xs ys) h)) ∙ ap (λ zs. y ∷ zs) (same_lists xs ys (and_right (x == y)
    (same_targets xs ys) h))

abbrev pub offer_by : ℕ → AddressBlock → ℕ → ℕ → List ℕ → List ℕ → Offer
offer_by vrf prefix site attachment targets clusters =
    record { export = record { vrf = vrf; prefix = prefix; site = site; attachment = attachment; targets = targets }; clusters = clusters }

pub same_offers : (offer other : Offer) → same_offer offer other ≡ true → offer ≡ other
same_offers offer other h =
    let rest : ((offer.export.site == other.export.site) && ((offer.export.attachment == other.export.attachment)
    && (same_targets offer.export.targets other.export.targets && same_targets offer.clusters other.clusters))) ≡ true =
    and_right (same_key (key_of offer) (key_of other)) _ h in
    let more : ((offer.export.attachment == other.export.attachment) && (same_targets offer.export.targets other.export.targets && same_targets
    offer.clusters other.clusters)) ≡ true =
    and_right (offer.export.site == other.export.site) _ rest in
    let last : (same_targets offer.export.targets other.export.targets && same_targets offer.clusters other.clusters) ≡ true =
    and_right (offer.export.attachment == other.export.attachment) _ more in
    let keys : key_of offer ≡ key_of other = same_keys (key_of offer) (key_of other) (and_left (same_key (key_of offer) (key_of other)) _ h) in
    ap (λ (k : Key). offer_by k.vrf k.prefix offer.export.site offer.export.attachment offer.export.targets offer.clusters) keys
    ∙ ap (λ s. offer_by other.export.vrf other.export.prefix s offer.export.attachment offer.export.targets offer.clusters)
    (same_numbers offer.export.site other.export.site (and_left (offer.export.site == other.export.site) _ rest))
    ∙ ap (λ a. offer_by other.export.vrf other.export.prefix other.export.site a offer.export.targets offer.clusters)
    (same_numbers offer.export.attachment other.export.attachment (and_left (offer.export.attachment == other.export.attachment) _ more))
    ∙ ap (λ ts. offer_by other.export.vrf other.export.prefix other.export.site other.export.attachment ts offer.clusters)
    (same_lists offer.export.targets other.export.targets (and_left (same_targets offer.export.targets other.export.targets) _ last))
    ∙ ap (λ cs. offer_by other.export.vrf other.export.prefix other.export.site other.export.attachment other.export.targets cs)
    (same_lists offer.clusters other.clusters (and_right (same_targets offer.export.targets other.export.targets) _ last))

-- 2. Mentions

pub mention_append : (key : Key) (was : Option Offer) (words more : List Word) → last_mention key was (words ++ more) ≡ last_mention key
    (last_mention key was words) more
mention_append key was [] more = refl
mention_append key was (word ∷ words) more = mention_append key (mentioned key was word) words more

-- an offer has the name by which it is asked for
abbrev pub IsNamed : Key → Option Offer → Type 0
IsNamed key None = Unit {0}
IsNamed key (Some offer) = key_of offer ≡ key

pub named_mention : (key : Key) (was : Option Offer) (words : List Word) → IsNamed key was → IsNamed key (last_mention key was words)
named_mention key was [] h = h
named_mention key was (Open ∷ words) h = named_mention key was words h
named_mention key was (KeepAlive ∷ words) h = named_mention key was words h
named_mention key was (Announce offer ∷ words) h = named_mention key (mentioned key was (Announce offer)) words (by (same_key key (key_of offer)) refl)
  where
    by : (b : Bool) → same_key key (key_of offer) ≡ b → IsNamed key (if b then Some offer else was)
    by true e = sym (same_keys key (key_of offer) e)
    by false e = h
named_mention key was (Withdraw other ∷ words) h = named_mention key (mentioned key was (Withdraw other)) words (by (same_key key other))
  where
    by : (b : Bool) → IsNamed key (if b then None else was)
    by true = tt
    by false = h

-- a change that is sent makes the last mention what is offered now
announced_here : (key : Key) (new : Offer) (was : Option Offer) → key_of new ≡ key → last_mention key was (Announce new ∷ []) ≡ Some new
announced_here key new was e = ap (λ b. if b then Some new else was) (subst (λ k. same_key key k ≡ true) (sym e) (key_itself key))

anew_here : (key : Key) (old new : Offer) (was : Option Offer) → key_of new ≡ key → (was ≡ Some old) ⊎ (was ≡ Some new) → (b : Bool) → same_offer old new ≡ b →
    last_mention key was (if b then [] else Announce new ∷ []) ≡ Some new
anew_here key old new was e (inl h) true q = h ∙ ap (λ o. Some o) (same_offers old new q)
anew_here key old new was e (inr h) true q = h
anew_here key old new was e h false q = announced_here key new was e

pub change_here : (key : Key) (old new was : Option Offer) → IsNamed key new → (was ≡ old) ⊎ (was ≡ new) → last_mention key was (change key old new) ≡ new
change_here key None None was n (inl h) = h
change_here key None None was n (inr h) = h
change_here key (Some old) None was n h = ap (λ b. if b then None else was) (key_itself key)
change_here key None (Some new) was n h = announced_here key new was n
change_here key (Some old) (Some new) was n h = anew_here key old new was n h (same_offer old new) refl

-- and leaves that of another route
pub change_other : (key other : Key) (old new was : Option Offer) → IsNamed other new → same_key key other ≡ false →
    last_mention key was (change other old new) ≡ was
change_other key other None None was n d = refl
change_other key other (Some old) None was n d = ap (λ b. if b then None else was) d
change_other key other None (Some new) was n d = ap (λ b. if b then Some new else was) (subst (λ k. same_key key k ≡ false) (sym n) d)
change_other key other (Some old) (Some new) was n d = by (same_offer old new)
  where
    by : (b : Bool) → last_mention key was (if b then [] else Announce new ∷ []) ≡ was
    by true = refl
    by false = ap (λ b. if b then Some new else was) (subst (λ k. same_key key k ≡ false) (sym n) d)

module _ (old new : Key → Option Offer) (named : (key : Key) → IsNamed key (new key)) where
  -- all changes of these routes
  abbrev pub changes : List Key → List Word
  changes keys = flat_map (λ key. change key (old key) (new key)) keys

  pub changes_stay : (keys : List Key) (key : Key) → last_mention key (new key) (changes keys) ≡ new key
  changes_stay [] key = refl
  changes_stay (other ∷ keys) key =
      mention_append key (new key) (change other (old other) (new other)) (changes keys) ∙ ap (λ o. last_mention key o (changes keys)) (by (two_ways
      (same_key key other))) ∙ changes_stay keys key
    where
      by : (same_key key other ≡ true) ⊎ (same_key key other ≡ false) → last_mention key (new key) (change other (old other) (new other)) ≡ new key
      by (inl e) = subst (λ k. last_mention key (new key) (change k (old k) (new k)) ≡ new key) (same_keys key other e) (change_here key (old key)
          (new key) (new key) (named key) (inr refl))
      by (inr e) = change_other key other (old other) (new other) (new key) (named other) e

  pub changes_end : (keys : List Key) (key : Key) (was : Option Offer) → (was ≡ old key) ⊎ (was ≡ new key) → In keys key →
      last_mention key was (changes keys) ≡ new key
  changes_end [] key was h i = absurd i
  changes_end (other ∷ keys) key was h i =
      mention_append key was (change other (old other) (new other)) (changes keys) ∙ by (two_ways (same_key key other)) (λ j. changes_end keys key was h j)
    where
      by : (same_key key other ≡ true) ⊎ (same_key key other ≡ false) → (In keys key → last_mention key was (changes keys) ≡ new key) →
          last_mention key (last_mention key was (change other (old other) (new other))) (changes keys) ≡ new key
      by (inl e) f =
          ap (λ o. last_mention key o (changes keys))
          (subst (λ k. last_mention key was (change k (old k) (new k)) ≡ new key) (same_keys key other e) (change_here key (old key) (new key) was
          (named key) h))
          ∙ changes_stay keys key
      by (inr e) f =
          ap (λ o. last_mention key o (changes keys)) (change_other key other (old other) (new other) was (named other) e)
          ∙ f (elim i [ inl q ↦ absurd (no (sym e ∙ ap (same_key key) q ∙ key_itself key)) | inr j ↦ j ])

  pub changes_none : (keys : List Key) (key : Key) (was : Option Offer) → (In keys key → ⊥) → last_mention key was (changes keys) ≡ was
  changes_none [] key was d = refl
  changes_none (other ∷ keys) key was d =
      mention_append key was (change other (old other) (new other)) (changes keys)
      ∙ ap (λ o. last_mention key o (changes keys)) (change_other key other (old other) (new other) was (named other) (apart (two_ways (same_key key other))))
      ∙ changes_none keys key was (λ i. d (inr i))
    where
      apart : (same_key key other ≡ true) ⊎ (same_key key other ≡ false) → same_key key other ≡ false
      apart (inl e) = absurd (d (inl (sym (same_keys key other e))))
      apart (inr e) = e

-- 3. Routes in order are the routes

placed_in : (key : Key) (keys : List Key) (x : Key) → (key ≡ x) ⊎ In keys x → In (placed key keys) x
placed_in key [] x (inl e) = inl e
placed_in key [] x (inr i) = absurd i
placed_in key (other ∷ others) x h = by (same_key key other) refl (key_before key other) (placed_in key others x) h
  where
    by : (b : Bool) → same_key key other ≡ b → (c : Bool) → ((key ≡ x) ⊎ In others x → In (placed key others) x) → (key ≡ x) ⊎ In (other ∷ others) x →
        In (if b then other ∷ others else if c then key ∷ other ∷ others else other ∷ placed key others) x
    by true e c f (inl q) = inl (sym (same_keys key other e) ∙ q)
    by true e c f (inr i) = i
    by false e true f (inl q) = inl q
    by false e true f (inr i) = inr i
    by false e false f (inl q) = inr (f (inl q))
    by false e false f (inr i) = elim i [ inl q ↦ inl q | inr j ↦ inr (f (inr j)) ]

pub order_in : (keys : List Key) (x : Key) → In keys x → In (in_order keys) x
order_in [] x i = i
order_in (key ∷ keys) x i = placed_in key (in_order keys) x (elim i [ inl e ↦ inl e | inr j ↦ inr (order_in keys x j) ])

-- a mention that is an announcement is among the words
pub mentioned_in : (key : Key) (was : Option Offer) (words : List Word) (offer : Offer) → last_mention key was words ≡ Some offer →
    (was ≡ Some offer) ⊎ In (keys_in words) key
mentioned_in key was [] offer h = inl h
mentioned_in key was (Open ∷ words) offer h = mentioned_in key was words offer h
mentioned_in key was (KeepAlive ∷ words) offer h = mentioned_in key was words offer h
mentioned_in key was (Announce said ∷ words) offer h = by (same_key key (key_of said)) refl (mentioned_in key (if same_key key
    (key_of said) then Some said else was) words offer h)
  where
    by : (b : Bool) → same_key key (key_of said) ≡ b → ((if b then Some said else was) ≡ Some offer) ⊎ In (keys_in words) key →
        (was ≡ Some offer) ⊎ In (key_of said ∷ keys_in words) key
    by true e f = inr (inl (sym (same_keys key (key_of said) e)))
    by false e (inl q) = inl q
    by false e (inr i) = inr (inr i)
mentioned_in key was (Withdraw other ∷ words) offer h = by (same_key key other) (mentioned_in key (if same_key key other then None else was) words offer h)
  where
    by : (b : Bool) → ((if b then None else was) ≡ Some offer) ⊎ In (keys_in words) key → (was ≡ Some offer) ⊎ In (keys_in words) key
    by true (inl q) = absurd (no (ap (λ o. elim o [ None ↦ false | Some z ↦ true ]) q))
    by true (inr i) = inr i
    by false f = f
