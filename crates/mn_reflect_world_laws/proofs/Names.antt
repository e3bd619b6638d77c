-- The names of what a node keeps.
use Rattle.std.proofs.Common.{ℕ, ◌≡◌, inl, inr, Bool, true, false, List, [], ◌∷◌, Some, None, refl, ◌∙◌, ap, subst}
use Rattle.std.specs.Prelude.{◌||◌, if◌then◌else◌, option_map}
use Rattle.std.specs.List.{AllByRecursion}
use Rattle.mn_base.specs.Ordered.{Ascends, one_at}
use Rattle.mn_base.proofs.Bools.{no}
use Rattle.mn_base.proofs.Members.{In, map_in, in_filter}
use Rattle.mn_base.proofs.Kept.{with_in}
use Rattle.mn_base.proofs.Places.{ascends_with, ascends_without}
use Rattle.mn_ledger.specs.Bgp.{peers_live}
use Rattle.mn_bgp_spelling_laws.specs.Spelling.{Labels}
use Rattle.mn_offers.specs.Heard.{Heard, heard_before, place_of}
use Rattle.mn_offers.proofs.ByName.{heard_order}
use Rattle.mn_reflect_ledger_laws.specs.Words.{Key, Offer, Word, Open, KeepAlive, Announce, Withdraw, key_of, key_before, last_mention}
use Rattle.mn_reflect_ledger_laws.specs.Picks.{ReflectWorld, announced_by}
use Rattle.mn_reflect_ledger_laws.proofs.Mentions.{IsNamed, named_mention}
use Rattle.mn_reflect_world_laws.specs.Kept.{route_in, after_word, after_words, kept_in}
use Rattle.mn_reflect_world_laws.specs.Choice.{names_in}
use Rattle.mn_reflect_world_laws.proofs.Keeping.{keeps}

abbrev pub name_of : Heard → Key
name_of route = record { vrf = route.vrf; prefix = route.prefix }

-- 1. What is kept stands in order

after_up : (l : Labels) (kept : List Heard) (words : List Word) → Ascends heard_before kept → Ascends heard_before (after_words l kept words)
after_up l kept [] up = up
after_up l kept (Announce x ∷ words) up = after_up l (after_word l kept (Announce x)) words (ascends_with heard_before (route_in l x) kept heard_order up)
after_up l kept (Withdraw k ∷ words) up = after_up l (after_word l kept (Withdraw k)) words (ascends_without heard_before (place_of k.vrf k.prefix) kept up)
after_up l kept (Open ∷ words) up = after_up l kept words up
after_up l kept (KeepAlive ∷ words) up = after_up l kept words up

pub kept_up : (l : Labels) (w : ReflectWorld) (n p : ℕ) → Ascends heard_before (kept_in l w n p)
kept_up l w n p = by (peers_live w.config n p)
  where
    by : (b : Bool) → Ascends heard_before (if b then after_words l [] (w.heard n p) else [])
    by true = after_up l [] (w.heard n p) tt
    by false = tt

all_named : (x : Heard) (xs : List Heard) → AllByRecursion (λ y. heard_before x y ≡ true) xs →
    AllByRecursion (λ k. key_before (name_of x) k ≡ true) (names_in xs)
all_named x [] h = tt
all_named x (y ∷ ys) h = (h.0, all_named x ys h.1)

names_up : (xs : List Heard) → Ascends heard_before xs → Ascends key_before (names_in xs)
names_up [] h = tt
names_up (x ∷ xs) h = (all_named x xs h.0, names_up xs h.1)

pub kept_names_up : (l : Labels) (w : ReflectWorld) (n p : ℕ) → Ascends key_before (names_in (kept_in l w n p))
kept_names_up l w n p = names_up (kept_in l w n p) (kept_up l w n p)

-- 2. What was announced is among them

one_in : (x : Heard) (ys : List Heard) (y : Heard) → one_at heard_before x ys ≡ Some y → In ys y
one_in x [] y h = absurd (no (ap (λ o. elim o [ None ↦ false | Some z ↦ true ]) h))
one_in x (z ∷ zs) y h = by (heard_before z x || heard_before x z) h (one_in x zs y)
  where
    by : (b : Bool) → (if b then one_at heard_before x zs else Some z) ≡ Some y → (one_at heard_before x zs ≡ Some y → In zs y) → In (z ∷ zs) y
    by true e more = inr (more e)
    by false e more = inl (ap (λ o. elim o [ None ↦ z | Some v ↦ v ]) e)

announced_key : (w : ReflectWorld) (n p : ℕ) (key : Key) (x : Offer) → announced_by w n p key ≡ Some x → key_of x ≡ key
announced_key w n p key x h = by (peers_live w.config n p) h
  where
    by : (b : Bool) → (if b then last_mention key None (w.heard n p) else None) ≡ Some x → key_of x ≡ key
    by true e = subst (IsNamed key) e (named_mention key None (w.heard n p) tt)
    by false e = absurd (no (ap (λ o. elim o [ None ↦ false | Some z ↦ true ]) e))

pub announced_kept : (l : Labels) (w : ReflectWorld) (n p : ℕ) (key : Key) (x : Offer) → announced_by w n p key ≡ Some x → In (kept_in l w n p) (route_in l x)
announced_kept l w n p key x h =
    one_in (place_of key.vrf key.prefix) (kept_in l w n p) (route_in l x) (keeps l w n p key ∙ ap (option_map (route_in l)) h)

pub announced_name : (l : Labels) (w : ReflectWorld) (n p : ℕ) (key : Key) (x : Offer) → announced_by w n p key ≡ Some x → In (names_in (kept_in l w n p)) key
announced_name l w n p key x h =
    subst (In (names_in (kept_in l w n p))) (announced_key w n p key x h)
    (map_in name_of (kept_in l w n p) (route_in l x) (announced_kept l w n p key x h))

-- 3. What is kept was announced

kept_offers : (l : Labels) (P : Offer → Type 0) (kept : List Heard) (words : List Word) →
    ((r : Heard) → In kept r → (x : Offer) × P x × (route_in l x ≡ r)) → ((x : Offer) → In words (Announce x) → P x) →
    (r : Heard) → In (after_words l kept words) r → (x : Offer) × P x × (route_in l x ≡ r)
kept_offers l P kept [] f g r i = f r i
kept_offers l P kept (Announce x ∷ words) f g r i =
    kept_offers l P (after_word l kept (Announce x)) words
    (λ s j. elim (with_in heard_before (route_in l x) kept s j) [
      | inl e ↦ (x, g x (inl refl), e)
      | inr k ↦ f s k.0
    ]) (λ y j. g y (inr j)) r i
kept_offers l P kept (Withdraw k ∷ words) f g r i =
    kept_offers l P (after_word l kept (Withdraw k)) words
    (λ s j. f s (in_filter (λ z. heard_before z (place_of k.vrf k.prefix) || heard_before (place_of k.vrf k.prefix) z) kept s j).0)
    (λ y j. g y (inr j)) r i
kept_offers l P kept (Open ∷ words) f g r i = kept_offers l P kept words f (λ y j. g y (inr j)) r i
kept_offers l P kept (KeepAlive ∷ words) f g r i = kept_offers l P kept words f (λ y j. g y (inr j)) r i

pub kept_from : (l : Labels) (w : ReflectWorld) (n p : ℕ) (P : Offer → Type 0) → ((x : Offer) → In (w.heard n p) (Announce x) → P x) →
    (r : Heard) → In (kept_in l w n p) r → (x : Offer) × P x × (route_in l x ≡ r)
kept_from l w n p P h r i = by (peers_live w.config n p) i
  where
    by : (b : Bool) → In (if b then after_words l [] (w.heard n p) else []) r → (x : Offer) × P x × (route_in l x ≡ r)
    by true j = kept_offers l P [] (w.heard n p) (λ s k. absurd k) h r j
    by false j = absurd j
